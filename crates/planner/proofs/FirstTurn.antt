-- The engine before its first turn.
use Prim.Native.Nat.{ℕ, ◌≤◌}
use mathlib.Core.Path.{◌≡◌, sym, ap, ◌∙◌}
use mathlib.Core.Bool.{Bool, true, false, cond}
use mathlib.Core.List.{List}
use mathlib.Core.Logic.{◌≢◌}
use native.Mathlib.Omega.{arith}
use lib.Dec.{ltb}
use lib.ListN.{length, replicate, length-replicate, get_or-replicate}
use Rattle.laws.specs.Lists.{cells}
use Rattle.laws.proofs.Lists.{cells-list, length-list}
use Rattle.fairness.specs.Filling.{start}
use Rattle.fairness.proofs.Filling.{between_at_start}
use Rattle.fairness.specs.Problem.{Problem}
use Rattle.planner.specs.Sizes.{most_base}
use Rattle.planner.specs.Limits.{problem}
use Rattle.planner.specs.Tables.{Roomy, Shared}
use Rattle.planner.specs.Engine.{sharing, state_of, Engaged, Modest, Started, start_stage}
use Rattle.planner.specs.declared.flows.Flows.{Flows}
use Rattle.planner.specs.declared.tables.Tables.{Tables}
use Rattle.planner.proofs.Stages.{done_start}
use Rattle.planner.proofs.State.{state_start}
use Rattle.planner.proofs.Starting.{added_start, none_held}
use Rattle.planner.proofs.Kept.{kept_start}

-- A flow without a minimum rises or stands at the start.
neither : (t : Bool) → cond {A = ℕ} t 20 21 ≡ 22 → ⊥
neither true q = omega arith
neither false q = omega arith

-- What the start sets out is what holds between two turns.
module _ (f : Flows) (capacities : List ℕ) (modest : Modest (sharing f capacities) f.heaviest) where
  abbrev P : Problem
  P = sharing f capacities

  pub engaged_start : {small : 1 ≤ most_base} (held : Bool) (old new : Tables) → old.left ≡ capacities → Started f held old new
      → Engaged f capacities (record { held = held; base = 1; least = 0; levels = replicate 20 0; tables = new; base_small = small })
  engaged_start {small} held old new full out =
      record {
        between = rw at_start (between_at_start _ modest.sound);
        kept =
            rw at_start
            (kept_start f.cards capacities f.demands.now f.minima.now f.weights.now (rw full at out.taken)
            (added_start f.cards f.demands.now f.minima.now f.weights.now capacities out.added));
        done = rw out.stages (done_start _ f.demands.now f.minima.now);
        light = record { small = omega arith; each = λ c hc q. omega arith };
        unheld = λ n c hc q.
            unwaiting c (none_held f.minima.now 64 held out.unheld n c hc)
            (sym (cells-list 64 _ c hc) ∙ ap (λ t. cells t c) (sym out.stages) ∙ q);
        high = λ i hi. rw (get_or-replicate {A = ℕ} 20 i 0 0 hi) (omega arith);
        long = (
          ap length out.stages ∙ length-list 64 (start_stage f.demands.now f.minima.now),
          length-replicate {A = ℕ} 20 0,
          out.taken.long,
          out.added.long,
        );
      }
    where
      at_start : state_of P 1 new.stages (replicate 20 0) ≡ start P
      at_start =
          state_start f.cards capacities f.demands.now f.minima.now f.weights.now (replicate 20 0) out.stages

      unwaiting : (c : ℕ) → cells f.minima.now c ≡ 0 → start_stage f.demands.now f.minima.now c ≢ 22
      unwaiting c none q = neither (ltb 0 (cells f.demands.now c)) (rw none at q)

-- The capacities have room for all minima, and no limit has too many weights.
-- Stands because docs/PORT-NAMES.md names these; no function cites them today.
module _ (cards : Bool) (capacities demands minima weights : List ℕ) (heaviest : ℕ)
    (modest : Modest (problem cards capacities demands minima weights) heaviest) where
  pub room_start : length capacities ≡ 20 → Roomy cards (cells minima) capacities
  room_start long = record { long = long; each = λ l h. modest.sound.fits l h }

  pub shared_start : Shared cards weights
  shared_start = record { each = modest.shares }
