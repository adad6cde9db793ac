-- A flow's entitlement: its rate at the largest demand. At each demand it gets the smaller of the two, and the
-- entitlement is at least its weighted share of one of its limits.
use Prim.Native.Nat.{ℕ, ◌*◌, ◌≤◌, ◌<◌, min}
use mathlib.Core.Path.{◌≡◌, refl, ap, sym, ◌∙◌}
use mathlib.Core.Bool.{Bool, true, false, cond}
use mathlib.Core.Logic.{◌⊎◌, inl, inr}
use native.Mathlib.Nat.{mul-le-mul_right, mul-lt-mul_of_pos_right, le_antisymm, min-eq_left, min-eq_right, le_of_lt, zero-mul}
use native.Mathlib.Omega.{arith}
use lib.Dec.{eqb}
use borrow.Author.Tests.{eq-eqb, ne_eqb}
use Rattle.fairness.specs.Total.{on}
use Rattle.fairness.specs.Problem.{Problem}
use Rattle.fairness.specs.Fairness.{Allocation, Allowed, AtMost, Fair, Bottleneck, SettledAt}
use Rattle.fairness.specs.Entitlement.{asking, sharing}
use Rattle.laws.proofs.Search.{le_or_lt, eq_or_not, true_or_false}
use Rattle.fairness.proofs.Sums.{total-le, member_le_total}
use Rattle.fairness.proofs.Settled.{settled_of_fair, fair_of_settled}
use Rattle.fairness.proofs.Unique.{same_of_fair}

-- Being fair does not depend on how far above its rate a flow's demand lies: a fair allocation stays fair at another
-- demand of f that f's rate does not pass, unless f had reached the old demand and has not reached the new one.
module _ (P : Problem) (f d e : ℕ) (a : Allocation) (fair : Fair (asking P f d) a)
    (within : a.numerator f ≤ e * a.base) (reached : a.numerator f ≡ d * a.base → a.numerator f ≡ e * a.base) where
  other_allowed : Allowed (asking P f e) a
  other_allowed =
      record {
        positive = fair.allowed.positive;
        feasible = record { room = fair.allowed.feasible.room };
        bounded =
            record { at_least = fair.allowed.bounded.at_least; at_most = λ c hc. go c (fair.allowed.bounded.at_most c hc) (eq_or_not c f) };
      }
    where
      go : (c : ℕ) → a.numerator c ≤ cond (eqb c f) d (P.demand c) * a.base → (c ≡ f) ⊎ (c ≡ f → ⊥)
          → a.numerator c ≤ cond (eqb c f) e (P.demand c) * a.base
      go c h (inl q) = rw (eq-eqb c f q, q) within
      go c h (inr n) = rw (ne_eqb c f n) (rw (ne_eqb c f n) at h)

  other_settled : (c : ℕ) → SettledAt (asking P f d) a c → (c ≡ f) ⊎ (c ≡ f → ⊥) → SettledAt (asking P f e) a c
  other_settled c (inl met) (inl q) = inl (rw (eq-eqb c f q, q) (reached (rw (eq-eqb c f q, q) at met)))
  other_settled c (inl met) (inr n) = inl (rw (ne_eqb c f n) (rw (ne_eqb c f n) at met))
  other_settled c (inr (l, hl, neck)) (inl q) = go (le_or_lt (e * a.base) (a.numerator f))
    where
      go : (e * a.base ≤ a.numerator f) ⊎ (a.numerator f < e * a.base) → SettledAt (asking P f e) a c
      go (inl h) = inl (rw (eq-eqb c f q, q) (le_antisymm within h))
      go (inr h) =
          inr (
            l,
            hl,
            record {
              passes = neck.passes;
              below = rw (eq-eqb c f q, q) h;
              full = neck.full;
              highest = neck.highest;
            },
          )
  other_settled c (inr (l, hl, neck)) (inr n) =
      inr (
        l,
        hl,
        record {
          passes = neck.passes;
          below = rw (ne_eqb c f n) (rw (ne_eqb c f n) at neck.below);
          full = neck.full;
          highest = neck.highest;
        },
      )

  fair_at_other : Fair (asking P f e) a
  fair_at_other =
      fair_of_settled (asking P f e) a other_allowed
      (record { each = λ c hc. other_settled c ((settled_of_fair (asking P f d) a fair).each c hc) (eq_or_not c f) })

-- At demand e the flow f gets the smaller of e and what it gets at the larger demand d.
pub entitled : (P : Problem) → ((c : ℕ) → c < P.flows → 0 < P.weight c) → (f : ℕ) → f < P.flows → (d e : ℕ) → e ≤ d
    → (a z : Allocation) → Fair (asking P f d) a → Fair (asking P f e) z
    → z.numerator f * a.base ≡ min (e * a.base) (a.numerator f) * z.base
entitled P weighed f hf d e le a z fair_a fair_z =
    go (le_or_lt (a.numerator f) (e * a.base)) (le_or_lt (e * z.base) (z.numerator f))
  where
    top : z.numerator f ≤ e * z.base
    top = rw (eq-eqb f f refl) at (fair_z.allowed.bounded.at_most f hf)

    go : (a.numerator f ≤ e * a.base) ⊎ (e * a.base < a.numerator f)
        → (e * z.base ≤ z.numerator f) ⊎ (z.numerator f < e * z.base)
        → z.numerator f * a.base ≡ min (e * a.base) (a.numerator f) * z.base
    go (inl h) t =
        let same = same_of_fair (asking P f e) weighed a z (fair_at_other P f d e a fair_a h
        (λ met. le_antisymm h (omega (arith, mul-le-mul_right a.base le)))) fair_z in
        rw (min-eq_right h) (sym (same.same f hf))
    go (inr h) (inl l) =
        let met : z.numerator f ≡ e * z.base = le_antisymm top l in
        rw (min-eq_left (le_of_lt h), met) (omega arith)
    go (inr h) (inr l) =
        let same = same_of_fair (asking P f d) weighed a z fair_a (fair_at_other P f e d z fair_z
        (omega (arith, mul-le-mul_right z.base le)) (λ met. absurd (omega arith))) in
        absurd (omega (
          arith,
          same.same f hf,
          mul-lt-mul_of_pos_right l fair_a.allowed.positive,
          mul-lt-mul_of_pos_right h fair_z.allowed.positive,
        ))

-- The floor. A flow that asks for at least the capacity of each of its limits, in none of which a flow has a minimum,
-- has its weighted share of one of them. Only flows that may ask for something share it.
module _ (P : Problem) (asks : ℕ → Bool) (silent : (c : ℕ) → c < P.flows → asks c ≡ false → P.demand c ≡ 0)
    (a : Allocation) (fair : Fair P a) (f : ℕ) (hf : f < P.flows) (asked : asks f ≡ true) where
  abbrev Share : ℕ → Type 0
  Share l = (P.through l f ≡ true) × (P.weight f * P.capacity l * a.base ≤ a.numerator f * sharing P asks l)

  -- where f has its demand, every limit through it will do
  share_of_met : a.numerator f ≡ P.demand f * a.base → (l : ℕ) → P.through l f ≡ true → P.capacity l ≤ P.demand f → Share l
  share_of_met met l e h =
      let own = member_le_total P.flows (P.through l) (λ c. on (asks c) (P.weight c)) f hf e in
      let weight : P.weight f ≤ sharing P asks l = rw asked at own in (
        e,
        omega (
          arith,
          mul-le-mul_right (P.weight f * a.base) h,
          mul-le-mul_right (a.numerator f) weight,
          ap (λ k. k * P.weight f) met,
        ),
      )

  -- where a bottleneck holds f back, that one will
  share_of_bottleneck : (l : ℕ) → Bottleneck P a l f → ((g : ℕ) → g < P.flows → P.through l g ≡ true → P.minimum g ≡ 0) → Share l
  share_of_bottleneck l neck none =
      let sums =
      total-le P.flows (P.through l) a.numerator (λ c. on (asks c) (P.weight c)) (P.weight f) (a.numerator f)
      (λ g hg m. go g hg m (true_or_false (asks g))) in
      (neck.passes, omega (arith, ap (λ k. k * P.weight f) neck.full))
    where
      go : (g : ℕ) → g < P.flows → P.through l g ≡ true → (asks g ≡ true) ⊎ (asks g ≡ false)
          → a.numerator g * P.weight f ≤ on (asks g) (P.weight g) * a.numerator f
      go g hg m (inl t) = rw t (side (neck.highest g hg m))
        where
          side : AtMost P a g f ⊎ (a.numerator g ≡ P.minimum g * a.base)
              → a.numerator g * P.weight f ≤ P.weight g * a.numerator f
          side (inl h) = omega arith
          side (inr e) =
              let zero : a.numerator g ≡ 0 = e ∙ ap (λ k. k * a.base) (none g hg m) ∙ zero-mul a.base in
              rw zero (omega arith)
      go g hg m (inr t) =
          let top = fair.allowed.bounded.at_most g hg in
          let zero : a.numerator g ≡ 0 = omega (arith, ap (λ k. k * a.base) (silent g hg t)) in
          rw (t, zero) (omega arith)

  pub floor : ((l : ℕ) → P.through l f ≡ true → P.capacity l ≤ P.demand f)
      → ((l : ℕ) → P.through l f ≡ true → (g : ℕ) → g < P.flows → P.through l g ≡ true → P.minimum g ≡ 0)
      → (l : ℕ) × (l < P.limits) × (P.through l f ≡ true) → (l : ℕ) × (l < P.limits) × Share l
  floor wide none placed = go ((settled_of_fair P a fair).each f hf)
    where
      go : SettledAt P a f → (l : ℕ) × (l < P.limits) × Share l
      go (inl met) = (placed.0, placed.1, share_of_met met placed.0 placed.2 (wide placed.0 placed.2))
      go (inr (l, hl, neck)) = (l, hl, share_of_bottleneck l neck (none l neck.passes))
