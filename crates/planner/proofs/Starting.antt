-- The walk that sets out the flows, one cell further, and what it has done at the end.
use Prim.Native.Nat.{ℕ, ◌+◌, ◌*◌, ◌≤◌, ◌<◌}
use mathlib.Core.Path.{◌≡◌, refl, sym, ap, ◌∙◌}
use mathlib.Core.Bool.{Bool, true, false, ◌||◌}
use mathlib.Core.List.{List}
use mathlib.Core.Logic.{◌⊎◌, inl, inr}
use native.Mathlib.Omega.{arith}
use native.Mathlib.Nat.{eq-zero-or-pos}
use lib.Dec.{eqb, ltb}
use lib.ListN.{length, set, replicate, length-replicate, get_or-replicate}
use borrow.Author.Tests.{lt-ltb, le-ltb}
use Rattle.laws.specs.Lists.{cells}
use Rattle.laws.proofs.Lists.{cells-list}
use Rattle.laws.proofs.Search.{le_or_lt, true_not_false}
use Rattle.fairness.specs.Total.{on, total}
use Rattle.fairness.proofs.Sums.{on_at_most, total-le, total_same, total_next, total_up}
use Rattle.planner.specs.Limits.{through, problem}
use Rattle.planner.specs.Tables.{Holds, Lowered, Begun, Shared, Added}
use Rattle.planner.specs.Engine.{rising_at, start_stage, first_stage, first_weight, start_weight, Unheld}
use Rattle.planner.specs.declared.tables.Tables.{Tables}
use Rattle.planner.proofs.Stages.{start_stages, limit_small}
use Rattle.planner.proofs.Walks.{lowered_none}

-- One flow begins. It waits, it rises, or it asks for nothing.
-- Stands because docs/PORT-NAMES.md names these; no function cites them today.
module _ {cards : Bool} {c : ℕ} (demand minimum weight : ℕ) {t : Tables} where
  pub begun_waiting : {left : List ℕ} → 0 < minimum → Lowered cards c minimum t.left left → length t.parts ≡ 20
      → Begun cards c (first_stage demand minimum) minimum (first_weight demand minimum weight) t
      (record t { stages = set t.stages c 22; left = left })
  begun_waiting low taken long =
      rw (lt-ltb 0 minimum low) (record { marked = refl; taken = taken; risen = lowered_none cards c 0 t.parts long refl })

  pub begun_rising : {parts : List ℕ} → minimum ≤ 0 → 0 < demand → length t.left ≡ 20 → Lowered cards c weight parts t.parts
      → Begun cards c (first_stage demand minimum) minimum (first_weight demand minimum weight) t
      (record t { stages = set t.stages c 20; parts = parts })
  begun_rising none asks long given =
      rw (le-ltb 0 minimum none, lt-ltb 0 demand asks)
      (record { marked = refl; taken = lowered_none cards c minimum t.left long (omega arith); risen = given })

  pub begun_silent : minimum ≤ 0 → demand ≤ 0 → length t.left ≡ 20 → length t.parts ≡ 20
      → Begun cards c (first_stage demand minimum) minimum (first_weight demand minimum weight) t
      (record t { stages = set t.stages c 21 })
  begun_silent none silent long_l long_p =
      rw (le-ltb 0 minimum none, le-ltb 0 demand silent)
      (record {
        marked = refl;
        taken = lowered_none cards c minimum t.left long_l (omega arith);
        risen = lowered_none cards c 0 t.parts long_p refl;
      })

-- What rises through the limits, from nothing.
pub zeros_long : {parts : List ℕ} → parts ≡ replicate 20 0 → length parts ≡ 20
zeros_long e = ap length e ∙ length-replicate {A = ℕ} 20 0

pub added_none : (cards : Bool) (x : ℕ → ℕ) {parts : List ℕ} → parts ≡ replicate 20 0 → Added cards 0 x parts
unfolding total
added_none cards x e =
    record {
      long = zeros_long e;
      each = λ l h. ap (λ t. cells t l) e ∙ get_or-replicate {A = ℕ} 20 l 0 0 (limit_small cards l h);
    }

pub added_next : (cards : Bool) (x : ℕ → ℕ) (i : ℕ) {parts next : List ℕ} → Added cards i x parts → Lowered cards i (x i) next parts
    → Added cards (i + 1) x next
added_next cards x i so_far step =
    record {
      long = step.long.0;
      each = λ l h. omega (arith, so_far.each l h, step.each l h, total_next i (through l) x);
    }

module _ (cards : Bool) (demands minima weights : List ℕ) where
  pub holds_next : Shared cards weights → (i : ℕ) → i < 64 → {parts : List ℕ} → Added cards i (start_weight demands minima weights) parts
      → Holds cards i (cells weights i) parts
  holds_next shared i low so_far =
      record {
        long = so_far.long;
        each = λ l h e.
            omega (
              arith,
              so_far.each l h,
              total-le i (through l) (start_weight demands minima weights) (cells weights) 1 1 (λ c hc m. lighter c),
              total_next i (through l) (cells weights),
              here l e,
              total_up (i + 1) 64 (through l) (cells weights) (omega arith),
              shared.each l h,
            );
      }
    where
      lighter : (c : ℕ) → start_weight demands minima weights c * 1 ≤ cells weights c * 1
      lighter c = omega (arith, on_at_most (eqb (start_stage demands minima c) 20) (cells weights c))

      here : (l : ℕ) → through l i ≡ true → on (through l i) (cells weights i) ≡ cells weights i
      here l e = rw e

  -- What has been added is what rises in the stages that the walk leaves.
  pub added_start : (capacities : List ℕ) {parts : List ℕ} → Added cards 64 (start_weight demands minima weights) parts
      → Added cards 64 (rising_at (problem cards capacities demands minima weights) (start_stages demands minima)) parts
  added_start capacities added = record { long = added.long; each = λ l h. added.each l h ∙ same l }
    where
      rising : ℕ → ℕ
      rising = rising_at (problem cards capacities demands minima weights) (start_stages demands minima)

      at : (c : ℕ) → c < 64 → rising c ≡ start_weight demands minima weights c
      at c hc = rw (cells-list 64 (start_stage demands minima) c hc)

      same : (l : ℕ) → total 64 (through l) (start_weight demands minima weights) ≡ total 64 (through l) rising
      same l = total_same 64 (through l) (start_weight demands minima weights) rising (λ c hc. sym (at c hc))

-- Whether some flow has a minimum.
or_right : (b : Bool) → (b || true) ≡ true
or_right true = refl
or_right false = refl

module _ (minima : List ℕ) where
  pub unheld_none : (held : Bool) → Unheld 0 held minima
  unheld_none held = record { each = λ c h. absurd (omega arith) }

  pub unheld_next : (i : ℕ) (held : Bool) → Unheld i held minima → Unheld (i + 1) (held || ltb 0 (cells minima i)) minima
  unheld_next i held so_far = record { each = λ c h low. go c h low (le_or_lt i c) }
    where
      go : (c : ℕ) → c < i + 1 → 0 < cells minima c → (i ≤ c) ⊎ (c < i) → (held || ltb 0 (cells minima i)) ≡ true
      go c h low (inl g) =
          let same : c ≡ i = omega arith in
          let here : 0 < cells minima i = rw same at low in
          rw (lt-ltb 0 (cells minima i) here) (or_right held)
      go c h low (inr b) = rw (so_far.each c b low)

  -- If none is told, every minimum is 0.
  pub none_held : (n : ℕ) (held : Bool) → Unheld n held minima → held ≡ false → (c : ℕ) → c < n → cells minima c ≡ 0
  none_held n held told e c h = go (eq-zero-or-pos (cells minima c))
    where
      go : (cells minima c ≡ 0) ⊎ (0 < cells minima c) → cells minima c ≡ 0
      go (inl none) = none
      go (inr low) = absurd (true_not_false (told.each c h low) e)
