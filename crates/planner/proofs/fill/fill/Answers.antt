-- `fill` meets its contract: the flows are set out, the turns are taken, and the rates are read off.
use Rattle.std.proofs.Common.{◌≤◌, Bool, List, ℕ, refl, sym, replicate, subst}
use Rattle.fairness.specs.Fairness.{Fair}
use Rattle.fairness.specs.Filling.{over}
use Rattle.planner.specs.Sizes.{most_base, most_high}
use Rattle.planner.specs.Tables.{Bounded}
use Rattle.planner.specs.Engine.{sharing, rates_at, Finished, Modest, Started}
use Rattle.planner.specs.declared.filling.Filling.{Filling}
use Rattle.planner.specs.declared.flows.Flows.{Flows}
use Rattle.planner.specs.declared.tables.Tables.{Tables}
use Rattle.planner.proofs.FirstTurn.{engaged_start}
use Rattle.planner.proofs.fill.fill.Goals as goal

-- The flows are set out and the turns are over.
ended : (f : Flows) (old : Tables) {small : 1 ≤ most_base} {held : Bool} {new : Tables} {end : Filling} → Modest (sharing f old.left) f.heaviest
    → Started f held old new → Finished f (record { held = held; base = 1; least = 0; levels = replicate 20 0; tables = new; base_small = small }) end
    → (end.base ≤ most_base) × Bounded 20 most_high end.levels × Fair (sharing f old.left) (over end.base (rates_at f end))
ended f old modest out over = over.each old.left modest (engaged_start f old.left modest _ old _ refl out)

pub turns-requires : goal.turns-requires
turns-requires c =
    record {
      capacities = c.args.capacities;
      modest = c.requires;
      engaged = engaged_start c.args.flows.now c.args.capacities c.requires c.start.result _ c.start.new.self refl c.start.ensures;
    }

pub rates-requires : goal.rates-requires
rates-requires c = let end = ended c.args.flows.now _ c.requires c.start.ensures c.turns.ensures in end.1

pub returns : goal.returns
returns c =
    let end = ended c.args.flows.now _ c.requires c.start.ensures c.turns.ensures in (
      end.0,
      subst
          (λ (xs : List ℕ). Fair (sharing c.args.flows.now c.args.capacities) (over c.turns.new.self.base xs))
          (sym c.rates.ensures) end.2,
    )
