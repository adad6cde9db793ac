-- A fair allocation exists for every sound problem, and how large its base can be.
use Prim.Native.Nat.{ℕ, zero, suc, ◌+◌, ◌≤◌}
use mathlib.Core.Path.{◌≡◌, refl, ap, ◌∙◌}
use mathlib.Core.Bool.{true}
use mathlib.Core.List.{List}
use native.Mathlib.Numerals.{add-one}
use native.Mathlib.Omega.{arith}
use lib.Dec.{ltb}
use lib.ListN.{length}
use Rattle.fairness.specs.Total.{on, total}
use Rattle.fairness.specs.Product.{sum, product}
use Rattle.fairness.specs.Problem.{Problem, Sound, across}
use Rattle.fairness.specs.Fairness.{Allocation, Fair}
use Rattle.fairness.specs.Filling.{State, start, filled, rates_of}
use Rattle.fairness.specs.Round.{Counted, busy, busy_weight, busy_limits}
use Rattle.fairness.proofs.Sums.{on_at_most, total-le}
use Rattle.fairness.proofs.Start.{afoot_at_start, opens_at_start}
use Rattle.fairness.proofs.Filling.{filled_ends}

pub fair_filled : (P : Problem) → Sound P → Fair P (rates_of (filled P))
fair_filled P sound = (filled_ends P sound).fair

pub fair_exists : (P : Problem) → Sound P → (a : Allocation) × Fair P a
fair_exists P sound = (rates_of (filled P), fair_filled P sound)

total_ones : (n : ℕ) → total n (λ i. true) (λ i. 1) ≡ n
unfolding total
total_ones zero = refl
total_ones (suc n) = ap (λ k. k + 1) (total_ones n) ∙ add-one n

-- No more limits hold flows that ask than there are limits, and such flows weigh no more than all.
pub busy_limits_at_most : (P : Problem) → busy_limits P ≤ P.limits
busy_limits_at_most P =
    let sums =
    total-le P.limits (λ l. true) (λ l. on (ltb 0 (across P l (busy P))) 1) (λ l. 1) 1 1
    (λ l hl e. omega (arith, on_at_most (ltb 0 (across P l (busy P))) 1)) in
    omega (arith, total_ones P.limits)

pub busy_weight_at_most : (P : Problem) → busy_weight P ≤ total P.flows (λ c. true) P.weight
busy_weight_at_most P =
    let sums =
    total-le P.flows (λ c. true) (busy P) P.weight 1 1
    (λ c hc e. omega (arith, on_at_most (ltb 0 (P.demand c)) (P.weight c))) in
    omega arith

-- The base is a product of at most as many divisors as limits hold flows that ask, and they add up to at most the
-- weights of these; so whatever bounds such products bounds the base of every state that a filling comes to.
pub counted_fits : (P : Problem) → Sound P → (s : State) → Counted P (start P) s → (j S m : ℕ) → busy_limits P ≤ j → busy_weight P ≤ S
    → ((ks : List ℕ) → length ks ≤ j → sum ks ≤ S → product ks ≤ m) → s.base ≤ m
counted_fits P sound s counted j S m limits weights bound =
    rw counted.base
    (bound counted.divisors
    (omega (arith, counted.few, opens_at_start P sound))
    (omega (arith, counted.small, afoot_at_start P sound)))

pub base_fits : (P : Problem) → Sound P → (j S m : ℕ) → busy_limits P ≤ j → busy_weight P ≤ S
    → ((ks : List ℕ) → length ks ≤ j → sum ks ≤ S → product ks ≤ m) → (filled P).base ≤ m
base_fits P sound = counted_fits P sound (filled P) (filled_ends P sound).counted
