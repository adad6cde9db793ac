-- Decisions on numbers, and searches over the numbers below a bound that find a witness or show that there is none.
use Prim.Native.Nat.{ℕ, zero, suc, ◌*◌, ◌≤◌, ◌<◌}
use mathlib.Core.Path.{◌≡◌, refl, sym, ◌∙◌, subst}
use mathlib.Core.Bool.{Bool, true, false, ◌&&◌, true≢false, false≢true}
use mathlib.Core.Logic.{◌⊎◌, inl, inr}
use native.Mathlib.Nat.{not-suc-le-zero, lt_of_not-le, mul-le-mul_right, le_of_mul-le-mul_right}
use native.Mathlib.Decide.{dec_le, ℕ_discrete}
use native.Mathlib.Omega.{arith}

pub le_or_lt : (a b : ℕ) → (a ≤ b) ⊎ (b < a)
le_or_lt a b = go (dec_le a b)
  where
    go : Dec (a ≤ b) → (a ≤ b) ⊎ (b < a)
    go (yes h) = inl h
    go (no n) = inr (lt_of_not-le n)

pub eq_or_not : (a b : ℕ) → (a ≡ b) ⊎ (a ≡ b → ⊥)
eq_or_not a b = go (ℕ_discrete a b)
  where
    go : Dec (a ≡ b) → (a ≡ b) ⊎ (a ≡ b → ⊥)
    go (yes h) = inl h
    go (no n) = inr n

pub true_or_false : (b : Bool) → (b ≡ true) ⊎ (b ≡ false)
true_or_false true = inl refl
true_or_false false = inr refl

pub true_not_false : {b : Bool} → b ≡ true → b ≡ false → ⊥
true_not_false p q = true≢false (sym p ∙ q)

pub both_true : (s t : Bool) → (s && t) ≡ true → (s ≡ true) × (t ≡ true)
both_true true t e = (refl, e)
both_true false t e = absurd (false≢true e)

pub true_of_both : {s t : Bool} → s ≡ true → t ≡ true → (s && t) ≡ true
true_of_both p q = rw (p, q)

-- What holds of every number below n and of n holds of every number below suc n.
pub below_suc : (Q : ℕ → Type 0) (n : ℕ) → ((i : ℕ) → i < n → Q i) → Q n → (i : ℕ) → i < suc n → Q i
below_suc Q n below here i h = go (le_or_lt n i)
  where
    go : (n ≤ i) ⊎ (i < n) → Q i
    go (inl l) = let e : n ≡ i = omega arith in subst Q e here
    go (inr l) = below i l

-- Of two properties one of which each number below n has, either all have the first or some one has the second.
pub all_or_some : (n : ℕ) (Q R : ℕ → Type 0) → ((i : ℕ) → i < n → Q i ⊎ R i)
    → ((i : ℕ) → i < n → Q i) ⊎ ((i : ℕ) × (i < n) × R i)
all_or_some zero Q R each = inl (λ i h. absurd (not-suc-le-zero h))
all_or_some (suc n) Q R each = go (all_or_some n Q R (λ i h. each i (omega arith))) (each n (omega arith))
  where
    go : ((i : ℕ) → i < n → Q i) ⊎ ((i : ℕ) × (i < n) × R i) → Q n ⊎ R n
        → ((i : ℕ) → i < suc n → Q i) ⊎ ((i : ℕ) × (i < suc n) × R i)
    go (inr w) here = inr (w.0, (let h = w.1 in omega arith), w.2)
    go (inl below) (inl q) = inl (below_suc Q n below q)
    go (inl below) (inr r) = inr (n, (omega arith), r)

-- One number below n has R and the least ratio key / size of all that have it, or every number has Q.
pub least_or_none : (n : ℕ) (Q R : ℕ → Type 0) (key size : ℕ → ℕ)
    → ((i : ℕ) → i < n → 0 < size i) → ((i : ℕ) → i < n → Q i ⊎ R i)
    → ((i : ℕ) → i < n → Q i)
    ⊎ ((i : ℕ) × (i < n) × R i × ((j : ℕ) → j < n → Q j ⊎ (key i * size j ≤ key j * size i)))
least_or_none zero Q R key size pos each = inl (λ i h. absurd (not-suc-le-zero h))
least_or_none (suc n) Q R key size pos each =
    go (least_or_none n Q R key size (λ i h. pos i (omega arith)) (λ i h. each i (omega arith))) (each n (omega arith))
  where
    Least : ℕ → ℕ → Type 0
    Least i j = Q j ⊎ (key i * size j ≤ key j * size i)

    chain : (i j k : ℕ) → 0 < size j → key i * size j ≤ key j * size i → key j * size k ≤ key k * size j
        → key i * size k ≤ key k * size i
    chain i j k p h l =
        le_of_mul-le-mul_right {k = size j}
        (omega (arith, mul-le-mul_right (size k) h, mul-le-mul_right (size i) l)) p

    pick : (w : (i : ℕ) × (i < n) × R i × ((j : ℕ) → j < n → Least i j)) → R n
        → (key w.0 * size n ≤ key n * size w.0) ⊎ (key n * size w.0 < key w.0 * size n)
        → (i : ℕ) × (i < suc n) × R i × ((j : ℕ) → j < suc n → Least i j)
    pick w r (inl h) =
        (w.0, (let l = w.1 in omega arith), w.2, below_suc (λ j. Least w.0 j) n w.3 (inr h))
    pick w r (inr h) = (
      n,
      (omega arith),
      r,
      below_suc (λ j. Least n j) n
          (λ j l. elim (w.3 j l) [
            | inl q ↦ inl q
            | inr k ↦ inr (chain n w.0 j (pos w.0 (let e = w.1 in omega arith)) (omega arith) k)
          ])
          (inr (omega arith)),
    )

    go : ((i : ℕ) → i < n → Q i) ⊎ ((i : ℕ) × (i < n) × R i × ((j : ℕ) → j < n → Least i j)) → Q n ⊎ R n
        → ((i : ℕ) → i < suc n → Q i) ⊎ ((i : ℕ) × (i < suc n) × R i × ((j : ℕ) → j < suc n → Least i j))
    go (inl below) (inl q) = inl (below_suc Q n below q)
    go (inl below) (inr r) = inr (n, (omega arith), r, below_suc (λ j. Least n j) n (λ j l. inl (below j l)) (inr (omega arith)))
    go (inr w) (inl q) =
        inr (w.0, (let l = w.1 in omega arith), w.2, below_suc (λ j. Least w.0 j) n w.3 (inl q))
    go (inr w) (inr r) = inr (pick w r (le_or_lt (key w.0 * size n) (key n * size w.0)))
