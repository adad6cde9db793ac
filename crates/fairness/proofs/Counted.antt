-- The base of a filling is the product of its divisors: every divisor closes a limit and stops that many weights, so
-- there are few of them and their sum is small.
use Prim.Native.Nat.{ℕ, ◌+◌, ◌*◌, ◌≤◌, ◌<◌}
use mathlib.Core.Path.{◌≡◌, refl, ap, ◌∙◌}
use mathlib.Core.Bool.{true, false}
use mathlib.Core.List.{◌∷◌}
use mathlib.Core.Logic.{◌⊎◌, inl, inr}
use native.Mathlib.Nat.{mul_comm}
use native.Mathlib.Omega.{arith}
use borrow.Author.Tests.{ltb-true, lt-ltb, le-ltb}
use Rattle.fairness.specs.Total.{on}
use Rattle.fairness.specs.Product.{sum, product}
use Rattle.fairness.specs.Problem.{Problem, across}
use Rattle.laws.specs.Lists.{cells}
use Rattle.fairness.specs.Filling.{State}
use Rattle.fairness.specs.Round.{live, Shutting, Moved, kept, met, shut_off, freed, Step, is_open, Counted}
use Rattle.laws.proofs.Search.{eq_or_not, true_or_false}
use Rattle.fairness.proofs.Sums.{on_one, total_linear, total-le, total-on, total-one, one, one_self, one_other}

module _ (P : Problem) (s t : State) (a k m : ℕ) (step : Step P s t a k m) where
  fewer : (c : ℕ) → c < P.flows → Moved P s t a k m c → live t c ≤ live s c
  fewer c hc (kept er ew ef h) = rw (er, ew) (omega arith)
  fewer c hc (met pos h er ew ef) = rw (er, ew) (omega arith)
  fewer c hc (shut_off l e shutting h) = rw ((shutting.idle c hc e).0, (shutting.idle c hc e).1) (omega arith)
  fewer c hc (freed pos e er ew ef) = rw (er, ew) (omega arith)

  fewer_across : (l : ℕ) → across P l (live t) ≤ across P l (live s)
  fewer_across l =
      let sums = total-le P.flows (P.through l) (live t) (live s) 1 1 (λ c hc e. omega (arith, fewer c hc (step.moved c hc))) in
      omega arith

  open_before : (l : ℕ) → is_open P t l ≡ true → is_open P s l ≡ true
  open_before l e = lt-ltb 0 (across P l (live s)) (omega (arith, ltb-true 0 (across P l (live t)) e, fewer_across l))

-- a round that multiplies by 1 has no divisor
pub counted_same : (P : Problem) (s₀ s t : State) (a k : ℕ) → Step P s t a k 1 → Counted P s₀ s → Counted P s₀ t
counted_same P s₀ s t a k step old =
    record {
      divisors = old.divisors;
      base = omega (arith, step.base, old.base);
      few =
          let sums =
          total-le P.limits (λ l. true) (λ l. on (is_open P t l) 1) (λ l. on (is_open P s l) 1) 1 1
          (λ l hl e. omega (arith, on_one (is_open P t l) (is_open P s l) (open_before P s t a k 1 step l))) in
          omega (arith, old.few);
      small =
          let sums =
          total-le P.flows (λ c. true) (live t) (live s) 1 1
          (λ c hc e. omega (arith, fewer P s t a k 1 step c hc (step.moved c hc))) in
          omega (arith, old.small);
    }

-- a limit that shuts gives the weights that rose through it as a divisor
module _ (P : Problem) (s₀ s t : State) (a k l : ℕ) (pos : 0 < k) (parts : k ≡ across P l (cells s.rising))
    (step : Step P s t a k k) (shutting : Shutting P s t a k k l) where
  closes : (i : ℕ) → (i ≡ l) ⊎ (i ≡ l → ⊥) → on (is_open P t i) 1 + one l i ≤ on (is_open P s i) 1
  closes i (inl e) =
      rw (e, one_self l, le-ltb 0 (across P l (live t)) none, lt-ltb 0 (across P l (live s)) many) (omega arith)
    where
      none : across P l (live t) ≤ 0
      none =
          let sums =
          total-le P.flows (P.through l) (live t) (live t) 1 0
          (λ c hc e. rw ((shutting.idle c hc e).0, (shutting.idle c hc e).1) (omega arith)) in
          omega arith

      many : 0 < across P l (live s)
      many =
          let sums = total-le P.flows (P.through l) (cells s.rising) (live s) 1 1 (λ c hc e. omega arith) in
          omega arith
  closes i (inr n) = rw (one_other l i n) (omega (arith, on_one (is_open P t i) (is_open P s i) (open_before P s t a k k step i)))

  stops : (c : ℕ) → c < P.flows → (P.through l c ≡ true) ⊎ (P.through l c ≡ false)
      → live t c + on (P.through l c) (cells s.rising c) ≤ live s c
  stops c hc (inl e) = rw (e, (shutting.idle c hc e).0, (shutting.idle c hc e).1) (omega arith)
  stops c hc (inr e) = rw e (omega (arith, fewer P s t a k k step c hc (step.moved c hc)))

  pub counted_shut : Counted P s₀ s → Counted P s₀ t
  unfolding sum product
  counted_shut old =
      record {
        divisors = k ∷ old.divisors;
        base = step.base ∙ ap (λ b. b * k) old.base ∙ mul_comm (product old.divisors) k;
        few =
            let sums =
            total_linear P.limits (λ i. true) (λ i. on (is_open P t i) 1) (one l) (λ i. on (is_open P s i) 1) (one l) 1 1 1 0
            (λ i hi e. omega (arith, closes i (eq_or_not i l))) in
            omega (arith, old.few, total-one P.limits (λ i. true) l shutting.listed refl);
        small =
            let sums =
            total_linear P.flows (λ c. true) (live t) (λ c. on (P.through l c) (cells s.rising c)) (live s) (live s) 1 1 1 0
            (λ c hc e. omega (arith, stops c hc (true_or_false (P.through l c)))) in
            omega (arith, old.small, total-on P.flows (P.through l) (cells s.rising), parts);
      }
