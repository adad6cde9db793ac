-- Two fair allocations give every flow the same rate; and whatever gives the rates of a fair allocation is fair.
use Prim.Native.Nat.{ℕ, ◌+◌, ◌*◌, ◌≤◌, ◌<◌, min}
use mathlib.Core.Path.{◌≡◌, ap, sym}
use mathlib.Core.Bool.{true, false}
use mathlib.Core.Logic.{◌⊎◌, inl, inr}
use native.Mathlib.Nat.{mul-le-mul_right, mul-lt-mul_of_pos_right, lt_of_mul-lt-mul_right, le_of_mul-le-mul_right}
use native.Mathlib.Nat.{min-eq_left, min-eq_right, min_comm, le_of_lt, le_antisymm}
use native.Mathlib.Omega.{arith}
use Rattle.fairness.specs.Problem.{Problem}
use Rattle.fairness.specs.Fairness.{Allocation, Allowed, AtMost, Better, Fair, Bottleneck, SettledAt, SameRates}
use Rattle.laws.proofs.Search.{le_or_lt, eq_or_not, true_or_false, true_not_false, all_or_some, least_or_none}
use Rattle.fairness.proofs.Sums.{total_linear, total-le, total-one, one, one_self, one_other}
use Rattle.fairness.proofs.Settled.{settled_of_fair}

-- If a gives f less than z does, then at a's bottleneck of f some flow has less in z than in a; and that flow is
-- lower in z than f is in a. So f is not the lowest flow at which the two differ.
module _ (P : Problem) (weighed : (c : ℕ) → c < P.flows → 0 < P.weight c) (a z : Allocation) (ok_a : Allowed P a) (ok_z : Allowed P z)
    (f : ℕ) (hf : f < P.flows) (less : a.numerator f * z.base < z.numerator f * a.base) where
  abbrev Loses : ℕ → ℕ → Type 0
  Loses l g = (P.through l g ≡ true) × (z.numerator g * a.base < a.numerator g * z.base)

  somebody_loses : (l : ℕ) → l < P.limits → Bottleneck P a l f → (g : ℕ) × (g < P.flows) × Loses l g
  somebody_loses l hl neck = go (all_or_some P.flows Holds (Loses l) side)
    where
      Holds : ℕ → Type 0
      Holds g = P.through l g ≡ true → a.numerator g * z.base ≤ z.numerator g * a.base

      side : (g : ℕ) → g < P.flows → Holds g ⊎ Loses l g
      side g hg = pick (true_or_false (P.through l g)) (le_or_lt (a.numerator g * z.base) (z.numerator g * a.base))
        where
          pick : (P.through l g ≡ true) ⊎ (P.through l g ≡ false)
              → (a.numerator g * z.base ≤ z.numerator g * a.base) ⊎ (z.numerator g * a.base < a.numerator g * z.base)
              → Holds g ⊎ Loses l g
          pick (inr e) t = inl (λ m. absurd (true_not_false m e))
          pick (inl e) (inl h) = inl (λ m. h)
          pick (inl e) (inr h) = inr (e, h)

      gains : ((g : ℕ) → g < P.flows → Holds g) → (g : ℕ) → g < P.flows → P.through l g ≡ true → (g ≡ f) ⊎ (g ≡ f → ⊥)
          → a.numerator g * z.base + one f g * 1 ≤ z.numerator g * a.base + one f g * 0
      gains holds g hg m (inl e) = rw (e, one_self f) (omega arith)
      gains holds g hg m (inr n) = rw (one_other f g n) (let h = holds g hg m in omega arith)

      go : ((g : ℕ) → g < P.flows → Holds g) ⊎ ((g : ℕ) × (g < P.flows) × Loses l g) → (g : ℕ) × (g < P.flows) × Loses l g
      go (inr w) = w
      go (inl holds) =
          let sums =
          total_linear P.flows (P.through l) a.numerator (one f) z.numerator (one f) z.base 1 a.base 0
          (λ g hg m. gains holds g hg m (eq_or_not g f)) in
          let gain = total-one P.flows (P.through l) f hf neck.passes in
          let room = mul-le-mul_right a.base (ok_z.feasible.room l hl) in
          absurd (omega (arith, ap (λ k. k * z.base) neck.full))

  lower : (l : ℕ) → Bottleneck P a l f → (g : ℕ) → g < P.flows → Loses l g
      → z.numerator g * a.base * P.weight f < a.numerator f * z.base * P.weight g
  lower l neck g hg (m, h) = go (neck.highest g hg m)
    where
      go : AtMost P a g f ⊎ (a.numerator g ≡ P.minimum g * a.base)
          → z.numerator g * a.base * P.weight f < a.numerator f * z.base * P.weight g
      go (inl low) =
          let scaled = mul-lt-mul_of_pos_right h (weighed f hf) in
          omega (arith, mul-le-mul_right z.base low)
      go (inr e) =
          let least = mul-le-mul_right a.base (ok_z.bounded.at_least g hg) in
          absurd (omega (arith, ap (λ k. k * z.base) e))

  not_the_lowest : SettledAt P a f
      → ((g : ℕ) → g < P.flows → z.numerator g * a.base < a.numerator g * z.base
      → a.numerator f * z.base * P.weight g ≤ z.numerator g * a.base * P.weight f)
      → ⊥
  not_the_lowest (inl met) least =
      let top = mul-le-mul_right a.base (ok_z.bounded.at_most f hf) in omega (arith, ap (λ k. k * z.base) met)
  not_the_lowest (inr (l, hl, neck)) least =
      let w = somebody_loses l hl neck in
      omega (arith, lower l neck w.0 w.1 w.2, least w.0 w.1 w.2.1)

-- a's rate for c over the product of the two bases
abbrev scaled : Allocation → Allocation → ℕ → ℕ
scaled a z c = a.numerator c * z.base

same_or_differs : (x y : ℕ) → (x ≡ y) ⊎ ((x < y) ⊎ (y < x))
same_or_differs x y = go (le_or_lt x y) (le_or_lt y x)
  where
    go : (x ≤ y) ⊎ (y < x) → (y ≤ x) ⊎ (x < y) → (x ≡ y) ⊎ ((x < y) ⊎ (y < x))
    go (inl h) (inl l) = inl (le_antisymm h l)
    go (inl h) (inr l) = inr (inl l)
    go (inr h) t = inr (inr h)

module _ (P : Problem) (weighed : (c : ℕ) → c < P.flows → 0 < P.weight c) where
  -- of two flows at which the allocations differ the key is the lower of the two rates
  not_lowest : (a z : Allocation) → Fair P a → Fair P z → (f : ℕ) → f < P.flows → scaled a z f < scaled z a f
      → ((g : ℕ) → g < P.flows → (scaled a z g ≡ scaled z a g)
      ⊎ (min (scaled a z f) (scaled z a f) * P.weight g ≤ min (scaled a z g) (scaled z a g) * P.weight f))
      → ⊥
  not_lowest a z fair_a fair_z f hf h least =
      not_the_lowest P weighed a z fair_a.allowed fair_z.allowed f hf h ((settled_of_fair P a fair_a).each f hf)
      (λ g hg l. pick g l (least g hg))
    where
      pick : (g : ℕ) → scaled z a g < scaled a z g
          → (scaled a z g ≡ scaled z a g)
          ⊎ (min (scaled a z f) (scaled z a f) * P.weight g ≤ min (scaled a z g) (scaled z a g) * P.weight f)
          → scaled a z f * P.weight g ≤ scaled z a g * P.weight f
      pick g l (inl e) = absurd (omega arith)
      pick g l (inr k) = rw (min-eq_left (le_of_lt h), min-eq_right (le_of_lt l)) at k

  pub same_of_fair : (a z : Allocation) → Fair P a → Fair P z → SameRates P a z
  same_of_fair a z fair_a fair_z =
      record {
        same = go (least_or_none P.flows (λ c. scaled a z c ≡ scaled z a c)
            (λ c. (scaled a z c < scaled z a c) ⊎ (scaled z a c < scaled a z c))
            (λ c. min (scaled a z c) (scaled z a c)) P.weight weighed
            (λ c hc. same_or_differs (scaled a z c) (scaled z a c)));
      }
    where
      go : ((c : ℕ) → c < P.flows → scaled a z c ≡ scaled z a c)
          ⊎ ((f : ℕ) × (f < P.flows) × ((scaled a z f < scaled z a f) ⊎ (scaled z a f < scaled a z f))
          × ((g : ℕ) → g < P.flows → (scaled a z g ≡ scaled z a g)
          ⊎ (min (scaled a z f) (scaled z a f) * P.weight g ≤ min (scaled a z g) (scaled z a g) * P.weight f)))
          → (c : ℕ) → c < P.flows → scaled a z c ≡ scaled z a c
      go (inl same) = same
      go (inr (f, hf, inl h, least)) = absurd (not_lowest a z fair_a fair_z f hf h least)
      go (inr (f, hf, inr h, least)) =
          absurd (not_lowest z a fair_z fair_a f hf h
          (λ g hg. elim (least g hg) [
            | inl e ↦ inl (sym e)
            | inr k ↦ inr (rw (min_comm (scaled z a f) (scaled a z f), min_comm (scaled z a g) (scaled a z g)) k)
          ]))

-- Equal rates over another base stay fair: everything in the definition speaks of rates alone.
module _ (P : Problem) (a z : Allocation) (positive : 0 < z.base) (same : SameRates P a z) where
  same_allowed : Allowed P a → Allowed P z
  same_allowed ok =
      record {
        positive = positive;
        feasible =
            record {
              room = λ l hl.
                  let sums =
                  total-le P.flows (P.through l) z.numerator a.numerator a.base z.base
                  (λ c hc m. omega (arith, same.same c hc)) in
                  cancel (omega (arith, mul-le-mul_right z.base (ok.feasible.room l hl)));
            };
        bounded =
            record {
              at_least = λ c hc.
                  cancel (omega (arith, mul-le-mul_right z.base (ok.bounded.at_least c hc), same.same c hc));
              at_most = λ c hc.
                  cancel (omega (arith, mul-le-mul_right z.base (ok.bounded.at_most c hc), same.same c hc));
            };
      }
    where
      cancel : {m n : ℕ} → m * a.base ≤ n * a.base → m ≤ n
      cancel h = le_of_mul-le-mul_right h ok.positive

  same_better : (f : ℕ) → f < P.flows → (w : Allocation) → Allowed P a → Better P z f w → Better P a f w
  same_better f hf w ok better =
      record {
        allowed = better.allowed;
        more =
            lt_of_mul-lt-mul_right z.base
            (omega (arith, mul-lt-mul_of_pos_right better.more ok.positive, ap (λ k. k * w.base) (same.same f hf)));
        no_less = λ g hg n h.
            le_of_mul-le-mul_right {k = z.base}
            (omega (arith, mul-le-mul_right a.base (better.no_less g hg n (at_most g hg h)), ap (λ k. k * w.base) (same.same g hg)))
            positive;
      }
    where
      at_most : (g : ℕ) → g < P.flows → AtMost P a g f → AtMost P z g f
      at_most g hg h =
          le_of_mul-le-mul_right {k = a.base}
          (omega (
            arith,
            mul-le-mul_right z.base h,
            ap (λ k. k * P.weight f) (same.same g hg),
            ap (λ k. k * P.weight g) (same.same f hf),
          ))
          ok.positive

  pub fair_of_same : Fair P a → Fair P z
  fair_of_same fair =
      record {
        allowed = same_allowed fair.allowed;
        unbeaten = λ f hf w better. fair.unbeaten f hf w (same_better f hf w fair.allowed better);
      }
