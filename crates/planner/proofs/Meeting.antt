-- The walk that stops the flows which meet their demands, one cell further.
use Prim.Native.Nat.{ℕ, ◌+◌, ◌*◌, ◌≤◌, ◌<◌}
use mathlib.Core.Path.{◌≡◌, refl, sym, ap, ◌∙◌}
use mathlib.Core.Bool.{Bool, false, cond}
use mathlib.Core.List.{List}
use mathlib.Core.Logic.{◌⊎◌, inl, inr}
use native.Mathlib.Omega.{arith}
use native.Mathlib.Nat.{le_trans, mul-le-mul_left, mul-le-mul_right}
use borrow.Author.Tests.{eq-eqb, ne_eqb, lt-leb}
use lib.ListN.{length, set}
use lib.Seq.{get_or-set_other}
use Rattle.laws.specs.Lists.{cells}
use Rattle.laws.proofs.Search.{le_or_lt, eq_or_not}
use Rattle.fairness.specs.Total.{on}
use Rattle.planner.specs.Tables.{Bounded, Swept}
use Rattle.planner.specs.Engine.{met_at, MetTo, Lightest, Light}
use Rattle.planner.specs.declared.flows.Flows.{Flows}
use Rattle.planner.specs.declared.level.Level.{Level}
use Rattle.planner.specs.declared.stop.Met.{Met}
use Rattle.planner.specs.declared.tables.Tables.{Tables}
use Rattle.planner.proofs.Walks.{swept_none, swept_past}

pub light_next : (i : ℕ) (old new : Met) (demands stages next : List ℕ) (y : ℕ) → Light i old.least demands stages
    → next ≡ set stages i y → Lightest new old (cells demands i) (cells next i) → Light (i + 1) new.least demands next
light_next i old new demands stages next y light marked step =
    record { small = le_trans step.before light.small; each = λ c h e. go c h e (le_or_lt i c) }
  where
    go : (c : ℕ) → c < i + 1 → cells next c ≡ 20 → (i ≤ c) ⊎ (c < i) → new.least ≤ cells demands c
    go c h e (inl g) =
        let same : c ≡ i = omega arith in rw same (step.here (ap (cells next) (sym same) ∙ e))
    go c h e (inr l) =
        let other : c ≡ i → ⊥ = λ q. omega arith in
        le_trans step.before
        (light.each c l (sym (ap (λ t. cells t c) marked ∙ get_or-set_other stages i c y 0 other) ∙ e))

-- A level at which even the heaviest flow has less than the least demand: no flow meets its demand there.
module _ (base high parts heaviest least : ℕ) (demands weights stages : List ℕ) (light : Light 64 least demands stages)
    (heavy : Bounded 64 heaviest weights) (low : high * heaviest < least * (base * parts)) where
  pub none_met : (c : ℕ) → c < 64 → met_at base high parts demands weights stages c ≡ false
  none_met c hc = go (eq_or_not (cells stages c) 20)
    where
      go : (cells stages c ≡ 20) ⊎ (cells stages c ≡ 20 → ⊥) → met_at base high parts demands weights stages c ≡ false
      go (inl e) =
          rw (
            eq-eqb (cells stages c) 20 e,
            lt-leb (cells demands c * (base * parts)) (high * cells weights c)
                (omega (
                  arith,
                  low,
                  mul-le-mul_left high (heavy.each c hc),
                  mul-le-mul_right (base * parts) (light.each c hc e),
                )),
          )
      go (inr n) = rw (ne_eqb (cells stages c) 20 n)

-- Where no flow meets its demand the walk changes nothing, whatever the tables and the level are.
pub swept_unmet : (cards : Bool) (base high parts : ℕ) (demands weights : List ℕ) (t : Tables)
    → ((c : ℕ) → c < 64 → met_at base high parts demands weights t.stages c ≡ false)
    → length t.stages ≡ 64 → length t.left ≡ 20 → length t.parts ≡ 20
    → Swept cards 64 (λ c. cond (met_at base high parts demands weights t.stages c) 21 (cells t.stages c))
    (λ c. on (met_at base high parts demands weights t.stages c) (cells demands c * base))
    (λ c. on (met_at base high parts demands weights t.stages c) (cells weights c)) t t
swept_unmet cards base high parts demands weights t none long_s long_l long_p =
    swept_past cards _ _ _ t t 0 64 (omega arith) (omega arith) (λ c g h. rw (none c h) (refl, refl, refl))
    (swept_none cards _ _ _ t long_s long_l long_p)

-- So it is of the engine's flows and levels.
pub swept_unmet_here : (f : Flows) (base : ℕ) (level : Level) (t : Tables)
    → ((c : ℕ) → c < 64 → met_at base level.high level.parts f.demands.now f.weights.now t.stages c ≡ false)
    → length t.stages ≡ 64 → length t.left ≡ 20 → length t.parts ≡ 20 → MetTo f base level 64 t t
swept_unmet_here f base level = swept_unmet f.cards base level.high level.parts f.demands.now f.weights.now
