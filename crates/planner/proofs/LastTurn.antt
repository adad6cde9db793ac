-- The engine's numbers stay small, and when nothing can happen any more the rates are fair.
use Prim.Native.Nat.{ℕ, ◌≤◌}
use mathlib.Core.Path.{◌≡◌, refl}
use mathlib.Core.Bool.{Bool, false}
use mathlib.Core.List.{List, []}
use native.Mathlib.Omega.{arith}
use Rattle.laws.proofs.Lists.{list_same}
use Rattle.fairness.specs.Fairness.{Fair}
use Rattle.fairness.specs.Filling.{next, over}
use Rattle.fairness.proofs.Filling.{ended_of_none}
use Rattle.planner.specs.Sizes.{most_base, most_high, most_parts}
use Rattle.planner.specs.Limits.{limits_of, problem}
use Rattle.planner.specs.Tables.{Bounded}
use Rattle.planner.specs.Engine.{sharing, standing, state_of, state_at, rates_at, Engaged, LimitsSmall, Modest}
use Rattle.planner.specs.declared.filling.Filling.{Filling}
use Rattle.planner.specs.declared.flows.Flows.{Flows}
use Rattle.planner.proofs.Stages.{limit_small}
use Rattle.planner.proofs.Bounds.{base_small, left_small, parts_small}

-- What a flow has is told without the limits.
standing_any : (cards : Bool) (capacities demands minima weights : List ℕ) (b : ℕ) (stages levels : List ℕ) (c : ℕ)
    → standing (problem false [] demands minima weights) b stages levels c
    ≡ standing (problem cards capacities demands minima weights) b stages levels c
unfolding standing
standing_any cards capacities demands minima weights b stages levels c = refl

module _ {f : Flows} {capacities : List ℕ} {at : Filling} (modest : Modest (sharing f capacities) f.heaviest)
    (now : Engaged f capacities at) where
  abbrev d : List ℕ
  d = f.demands.now

  abbrev m : List ℕ
  m = f.minima.now

  abbrev w : List ℕ
  w = f.weights.now

  pub base_now : at.base ≤ most_base
  base_now = base_small f.cards capacities d m w at.base at.tables.stages at.levels modest now.between

  pub limits_now : LimitsSmall f.cards at.tables
  limits_now =
      record {
        left = left_small f.cards capacities d m w at.base at.tables.stages at.levels modest now.between now.kept;
        parts = parts_small f.cards capacities d m w at.base at.tables.stages at.levels modest now.kept;
      }

  -- Cited by no function today: the two halves by themselves.
  pub left_now : Bounded (limits_of f.cards) most_high at.tables.left
  left_now = limits_now.left

  pub parts_now : Bounded (limits_of f.cards) most_parts at.tables.parts
  parts_now = limits_now.parts

  pub levels_now : Bounded 20 most_high at.levels
  levels_now = record { each = λ i hi. omega (arith, now.high i hi, base_now) }

  pub levels_listed : Bounded (limits_of f.cards) most_high at.levels
  levels_listed = record { each = λ i hi. levels_now.each i (limit_small f.cards i hi) }

  pub fair_at_last : (next (sharing f capacities) (state_at (sharing f capacities) at)).parts ≡ 0
      → Fair (sharing f capacities) (over at.base (rates_at f at))
  unfolding state_of
  fair_at_last none =
      rw (list_same 64 _ _ (λ c hc. standing_any f.cards capacities d m w at.base at.tables.stages at.levels c))
      (ended_of_none (sharing f capacities) modest.sound _ now.between none).fair
