-- A feasible and bounded allocation is fair exactly when every flow has its demand or a bottleneck.
use Prim.Native.Nat.{ℕ, ◌+◌, ◌-◌, ◌*◌, ◌≤◌, ◌<◌}
use mathlib.Core.Path.{◌≡◌, refl, ap}
use mathlib.Core.Bool.{Bool, true, false, ◌&&◌}
use mathlib.Core.Logic.{◌⊎◌, inl, inr}
use native.Mathlib.Nat.{mul-le-mul_right, mul-lt-mul_of_pos_right, le_antisymm, le_refl}
use native.Mathlib.Omega.{arith}
use lib.Dec.{ltb}
use borrow.Author.Tests.{ltb-true, lt-ltb, le-ltb}
use Rattle.fairness.specs.Problem.{Problem, across}
use Rattle.fairness.specs.Fairness.{Allocation, Feasible, Bounded, Allowed, AtMost, Better, Fair, Bottleneck, SettledAt, Settled}
use Rattle.laws.proofs.Search.{le_or_lt, eq_or_not, true_or_false, true_not_false, both_true, true_of_both, all_or_some}
use Rattle.fairness.proofs.Sums.{total_linear, total-le, total-one, one, one_self, one_other}

-- Settled allocations are fair. Whoever gives f more must take it from f's bottleneck, where nobody else may lose.
module _ (P : Problem) (a : Allocation) (ok : Allowed P a) where
  keeps : (f : ℕ) (z : Allocation) → Better P a f z → (l : ℕ) → Bottleneck P a l f
      → (g : ℕ) → g < P.flows → P.through l g ≡ true → (g ≡ f) ⊎ (g ≡ f → ⊥)
      → a.numerator g * z.base + one f g * 1 ≤ z.numerator g * a.base + one f g * 0
  keeps f z better l neck g hg m (inl e) = rw (e, one_self f) (let more = better.more in omega arith)
  keeps f z better l neck g hg m (inr n) = rw (one_other f g n) (go (neck.highest g hg m))
    where
      go : AtMost P a g f ⊎ (a.numerator g ≡ P.minimum g * a.base)
          → a.numerator g * z.base + 0 * 1 ≤ z.numerator g * a.base + 0 * 0
      go (inl h) = let less = better.no_less g hg n h in omega arith
      go (inr e) =
          let low = mul-le-mul_right a.base (better.allowed.bounded.at_least g hg) in
          omega (arith, ap (λ k. k * z.base) e)

  no_better : (f : ℕ) → f < P.flows → (z : Allocation) → Better P a f z → SettledAt P a f → ⊥
  no_better f hf z better (inl met) =
      let top = mul-le-mul_right a.base (better.allowed.bounded.at_most f hf) in
      let more = better.more in
      omega (arith, ap (λ k. k * z.base) met)
  no_better f hf z better (inr (l, hl, neck)) =
      let sums =
      total_linear P.flows (P.through l) a.numerator (one f) z.numerator (one f) z.base 1 a.base 0
      (λ g hg m. keeps f z better l neck g hg m (eq_or_not g f)) in
      let gain = total-one P.flows (P.through l) f hf neck.passes in
      let room = mul-le-mul_right a.base (better.allowed.feasible.room l hl) in
      omega (arith, ap (λ k. k * z.base) neck.full)

  pub fair_of_settled : Settled P a → Fair P a
  fair_of_settled settled =
      record { allowed = ok; unbeaten = λ f hf z better. no_better f hf z better (settled.each f hf) }

-- Fair allocations are settled. If no limit holds f back, every flow that is above f and above its minimum can give
-- up 1, and f can take it, over the same base.
abbrev less : Bool → ℕ → ℕ
less true k = k - 1
less false k = k

less-le : (b : Bool) (k : ℕ) → less b k ≤ k
less-le true k = omega arith
less-le false k = omega arith

less-above : (b : Bool) (k j : ℕ) → j ≤ k → (b ≡ true → j < k) → j ≤ less b k
less-above true k j h above = let l = above refl in omega arith
less-above false k j h above = h

module _ (P : Problem) (a : Allocation) (ok : Allowed P a) (f : ℕ) (hf : f < P.flows) where
  -- g is above f and above its own minimum
  gives : ℕ → Bool
  gives g =
      ltb (a.numerator f * P.weight g) (a.numerator g * P.weight f)
      && ltb (P.minimum g * a.base) (a.numerator g)

  exchanged : Allocation
  exchanged = record { base = a.base; numerator = λ g. less (gives g) (a.numerator g) + one f g }

  at_most_or_gives : (g : ℕ) → (AtMost P a g f ⊎ (a.numerator g ≤ P.minimum g * a.base)) ⊎ (gives g ≡ true)
  unfolding gives
  at_most_or_gives g =
      go (le_or_lt (a.numerator g * P.weight f) (a.numerator f * P.weight g))
      (le_or_lt (a.numerator g) (P.minimum g * a.base))
    where
      go : AtMost P a g f ⊎ (a.numerator f * P.weight g < a.numerator g * P.weight f)
          → (a.numerator g ≤ P.minimum g * a.base) ⊎ (P.minimum g * a.base < a.numerator g)
          → (AtMost P a g f ⊎ (a.numerator g ≤ P.minimum g * a.base)) ⊎ (gives g ≡ true)
      go (inl h) t = inl (inl h)
      go (inr h) (inl l) = inl (inr l)
      go (inr h) (inr l) = inr (true_of_both (lt-ltb _ _ h) (lt-ltb _ _ l))

  keeps_of_at_most : (g : ℕ) → AtMost P a g f → gives g ≡ false
  unfolding gives
  keeps_of_at_most g h = rw (le-ltb (a.numerator f * P.weight g) (a.numerator g * P.weight f) h)

  above_of_gives : (g : ℕ) → gives g ≡ true → P.minimum g * a.base < a.numerator g
  unfolding gives
  above_of_gives g e =
      ltb-true (P.minimum g * a.base) (a.numerator g)
      (both_true (ltb (a.numerator f * P.weight g) (a.numerator g * P.weight f)) _ e).1

  -- somebody in the limit gives
  abbrev Giver : ℕ → Type 0
  Giver l = (g : ℕ) × (g < P.flows) × (P.through l g ≡ true) × (gives g ≡ true)

  -- the limit does not hold f back: f does not pass it, or it has room, or somebody in it gives
  abbrev Free : ℕ → Type 0
  Free l =
      (P.through l f ≡ false)
      ⊎ ((P.through l f ≡ true) × ((across P l a.numerator < P.capacity l * a.base) ⊎ Giver l))

  module _ (below : a.numerator f < P.demand f * a.base) where
    bottleneck_or_free : (l : ℕ) → l < P.limits → Free l ⊎ Bottleneck P a l f
    bottleneck_or_free l hl = go (true_or_false (P.through l f)) (le_or_lt (P.capacity l * a.base) (across P l a.numerator))
      where
        Under : ℕ → Type 0
        Under g = P.through l g ≡ true → AtMost P a g f ⊎ (a.numerator g ≡ P.minimum g * a.base)

        side : (g : ℕ) → g < P.flows → Under g ⊎ ((P.through l g ≡ true) × (gives g ≡ true))
        side g hg = one_side (true_or_false (P.through l g)) (at_most_or_gives g)
          where
            one_side : (P.through l g ≡ true) ⊎ (P.through l g ≡ false)
                → (AtMost P a g f ⊎ (a.numerator g ≤ P.minimum g * a.base)) ⊎ (gives g ≡ true)
                → Under g ⊎ ((P.through l g ≡ true) × (gives g ≡ true))
            one_side (inr e) t = inl (λ m. absurd (true_not_false m e))
            one_side (inl e) (inr t) = inr (e, t)
            one_side (inl e) (inl (inl h)) = inl (λ m. inl h)
            one_side (inl e) (inl (inr h)) = inl (λ m. inr (le_antisymm h (ok.bounded.at_least g hg)))

        full : P.through l f ≡ true → P.capacity l * a.base ≤ across P l a.numerator
            → ((g : ℕ) → g < P.flows → Under g) ⊎ ((g : ℕ) × (g < P.flows) × ((P.through l g ≡ true) × (gives g ≡ true)))
            → Free l ⊎ Bottleneck P a l f
        full e h (inl under) =
            inr (record { passes = e; below = below; full = le_antisymm (ok.feasible.room l hl) h; highest = under })
        full e h (inr w) = inl (inr (e, inr (w.0, w.1, w.2.0, w.2.1)))

        go : (P.through l f ≡ true) ⊎ (P.through l f ≡ false)
            → (P.capacity l * a.base ≤ across P l a.numerator) ⊎ (across P l a.numerator < P.capacity l * a.base)
            → Free l ⊎ Bottleneck P a l f
        go (inr e) t = inl (inl e)
        go (inl e) (inr h) = inl (inr (e, inl h))
        go (inl e) (inl h) = full e h (all_or_some P.flows Under (λ g. (P.through l g ≡ true) × (gives g ≡ true)) side)

    module _ (free : (l : ℕ) → l < P.limits → Free l) where
      at_most : (g : ℕ) → g < P.flows → (g ≡ f) ⊎ (g ≡ f → ⊥)
          → less (gives g) (a.numerator g) + one f g ≤ P.demand g * a.base
      at_most g hg (inl e) = rw (e, one_self f) (omega (arith, less-le (gives f) (a.numerator f)))
      at_most g hg (inr n) = rw (one_other f g n) (omega (arith, less-le (gives g) (a.numerator g), ok.bounded.at_most g hg))

      exchanged_bounded : Bounded P exchanged
      unfolding exchanged
      exchanged_bounded =
          record {
            at_least = λ g hg.
                omega (
                  arith,
                  less-above (gives g) (a.numerator g) (P.minimum g * a.base) (ok.bounded.at_least g hg)
                      (above_of_gives g),
                );
            at_most = λ g hg. at_most g hg (eq_or_not g f);
          }

      loses : (g c : ℕ) → gives g ≡ true → (c ≡ g) ⊎ (c ≡ g → ⊥) → less (gives c) (a.numerator c) + one g c ≤ a.numerator c
      loses g c e (inl q) = rw (q, one_self g, e) (let h = above_of_gives g e in omega arith)
      loses g c e (inr n) = rw (one_other g c n) (omega (arith, less-le (gives c) (a.numerator c)))

      room : (l : ℕ) → l < P.limits → Free l → across P l exchanged.numerator ≤ P.capacity l * a.base
      unfolding exchanged
      room l hl (inl out) =
          let sums =
          total-le P.flows (P.through l) exchanged.numerator a.numerator 1 1
          (λ c hc m. rw (one_other f c (λ e. true_not_false m (rw e out)))
          (omega (arith, less-le (gives c) (a.numerator c)))) in
          omega (arith, ok.feasible.room l hl)
      room l hl (inr (e, inl h)) =
          let sums =
          total_linear P.flows (P.through l) exchanged.numerator (one f) a.numerator (one f) 1 0 1 1
          (λ c hc m. omega (arith, less-le (gives c) (a.numerator c))) in
          omega (arith, total-one P.flows (P.through l) f hf e)
      room l hl (inr (e, inr (g, hg, m, t))) =
          let sums =
          total_linear P.flows (P.through l) exchanged.numerator (one g) a.numerator (one f) 1 1 1 1
          (λ c hc mc. omega (arith, loses g c t (eq_or_not c g))) in
          omega (
            arith,
            total-one P.flows (P.through l) f hf e,
            total-one P.flows (P.through l) g hg m,
            ok.feasible.room l hl,
          )

      exchanged_feasible : Feasible P exchanged
      unfolding exchanged
      exchanged_feasible = record { room = λ l hl. room l hl (free l hl) }

      exchanged_better : Better P a f exchanged
      unfolding exchanged
      exchanged_better =
          record {
            allowed = record { positive = ok.positive; feasible = exchanged_feasible; bounded = exchanged_bounded };
            more =
                rw (keeps_of_at_most f (le_refl _), one_self f)
                (mul-lt-mul_of_pos_right (omega arith) ok.positive);
            no_less = λ g hg n h. rw (keeps_of_at_most g h, one_other f g n) (mul-le-mul_right a.base (omega arith));
          }

pub settled_of_fair : (P : Problem) (a : Allocation) → Fair P a → Settled P a
settled_of_fair P a fair = record { each = λ f hf. at_demand_or_below f hf (le_or_lt (P.demand f * a.base) (a.numerator f)) }
  where
    held : (f : ℕ) (hf : f < P.flows) (below : a.numerator f < P.demand f * a.base)
        → ((l : ℕ) → l < P.limits → Free P a fair.allowed f hf l) ⊎ ((l : ℕ) × (l < P.limits) × Bottleneck P a l f)
        → SettledAt P a f
    held f hf below (inl free) =
        absurd (fair.unbeaten f hf (exchanged P a fair.allowed f hf) (exchanged_better P a fair.allowed f hf below free))
    held f hf below (inr w) = inr w

    at_demand_or_below : (f : ℕ) (hf : f < P.flows)
        → (P.demand f * a.base ≤ a.numerator f) ⊎ (a.numerator f < P.demand f * a.base) → SettledAt P a f
    at_demand_or_below f hf (inl h) = inl (le_antisymm (fair.allowed.bounded.at_most f hf) h)
    at_demand_or_below f hf (inr below) =
        held f hf below
        (all_or_some P.limits (Free P a fair.allowed f hf) (λ l. Bottleneck P a l f)
        (bottleneck_or_free P a fair.allowed f hf below))
