-- How large the engine's numbers become: its base, what is left of each limit, what rises through it, and what stops there.
use Prim.Native.Nat.{ℕ, ◌≤◌, ◌<◌}
use mathlib.Core.Path.{◌≡◌}
use mathlib.Core.Bool.{Bool, true, false}
use mathlib.Core.List.{List}
use mathlib.Core.Logic.{◌⊎◌, inl, inr}
use native.Mathlib.Nat.{le_refl, le_trans, mul-le-mul}
use native.Mathlib.Omega.{arith}
use lib.Dec.{eqb}
use Rattle.laws.specs.Lists.{cells}
use Rattle.laws.proofs.Search.{true_or_false}
use Rattle.fairness.specs.Total.{on}
use Rattle.fairness.specs.Problem.{Problem, across}
use Rattle.fairness.specs.Filling.{State, Next, meets}
use Rattle.fairness.proofs.Sums.{on_at_most, total-le}
use Rattle.fairness.specs.Round.{Between, busy_limits, busy_weight}
use Rattle.fairness.proofs.Existence.{counted_fits}
use Rattle.planner.specs.Sizes.{most_asked, most_base, most_high, most_parts}
use Rattle.planner.specs.Limits.{limits_of, through, problem}
use Rattle.planner.specs.Tables.{Bounded}
use Rattle.planner.specs.Engine.{rising_at, state_of, Kept, Modest}
use Rattle.planner.proofs.State.{rising_cell, rising_of_meets}

-- If no flow has more of x than of y, no limit has.
across-le : (P : Problem) (i : ℕ) (x y : ℕ → ℕ) → ((c : ℕ) → c < P.flows → x c ≤ y c) → across P i x ≤ across P i y
across-le P i x y h =
    let sums = total-le P.flows (P.through i) x y 1 1 (λ c hc m. omega (arith, h c hc)) in omega arith

pub state_base_small : (P : Problem) (s : State) {heaviest : ℕ} → Modest P heaviest → Between P s → s.base ≤ most_base
state_base_small P s modest at =
    counted_fits P modest.sound s at.counted (busy_limits P) (busy_weight P) most_base (le_refl _) (le_refl _)
    modest.divisors

module _ (cards : Bool) (capacities demands minima weights : List ℕ) where
  abbrev P : Problem
  P = problem cards capacities demands minima weights

  pub weight_small : {heaviest : ℕ} → Modest P heaviest → (c : ℕ) → c < 64 → P.weight c ≤ most_parts
  weight_small modest c hc = le_trans (modest.weights c hc) modest.heavy

  pub minimum_small : {heaviest : ℕ} → Modest P heaviest → (c : ℕ) → c < 64 → P.minimum c ≤ most_asked
  minimum_small modest c hc = le_trans (modest.sound.least c hc) (modest.demands c hc)

  module _ (b : ℕ) (stages levels : List ℕ) where
    abbrev s : State
    s = state_of P b stages levels

    pub base_small : {heaviest : ℕ} → Modest P heaviest → Between P s → b ≤ most_base
    unfolding state_of
    base_small modest at = state_base_small P s modest at

    pub left_small : {heaviest : ℕ} {left parts : List ℕ} → Modest P heaviest → Between P s → Kept P s left parts
        → Bounded (limits_of cards) most_high left
    left_small modest at kept =
        record {
          each = λ l hl.
              let whole = mul-le-mul (modest.capacities l hl) (state_base_small P s modest at) in
              omega (arith, kept.left_is l hl);
        }

    rises_no_more : (c : ℕ) → c < 64 → cells s.rising c ≤ P.weight c
    rises_no_more c hc = rw (rising_cell P b stages levels c hc) (on_at_most (eqb (cells stages c) 20) (P.weight c))

    pub parts_small : {heaviest : ℕ} {left parts : List ℕ} → Modest P heaviest → Kept P s left parts
        → Bounded (limits_of cards) most_parts parts
    parts_small modest kept =
        record {
          each = λ l hl.
              let sums = across-le P l (cells s.rising) P.weight rises_no_more in
              omega (arith, kept.parts_is l hl, modest.shares l hl);
        }

    -- What stops is among what rises.
    pub met_covered : (e : Next) {left parts : List ℕ} → Kept P s left parts → (i : ℕ) → i < P.limits
        → across P i (λ c. on (meets P s e c) (P.weight c)) ≤ cells parts i
    met_covered e kept i hi =
        rw (kept.parts_is i hi)
        (across-le P i (λ c. on (meets P s e c) (P.weight c)) (cells s.rising)
        (λ c hc. rising c hc (true_or_false (meets P s e c))))
      where
        rising : (c : ℕ) → c < 64 → (meets P s e c ≡ true) ⊎ (meets P s e c ≡ false)
            → on (meets P s e c) (P.weight c) ≤ cells s.rising c
        rising c hc (inl t) =
            let up = rising_of_meets cards capacities demands minima weights b stages levels e c hc t in
            rw (t, rising_cell P b stages levels c hc, up) (omega arith)
        rising c hc (inr f) = rw f (omega arith)

    pub shut_covered : (l : ℕ) {left parts : List ℕ} → Kept P s left parts → (i : ℕ) → i < P.limits
        → across P i (λ c. on (through l c) (rising_at P stages c)) ≤ cells parts i
    shut_covered l kept i hi =
        rw (kept.parts_is i hi)
        (across-le P i (λ c. on (through l c) (rising_at P stages c)) (cells s.rising)
        (λ c hc. rw (rising_cell P b stages levels c hc) (on_at_most (through l c) (rising_at P stages c))))
