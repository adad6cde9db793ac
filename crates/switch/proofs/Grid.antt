-- Sums over the 64 cells: the cells of a port are a row or a column of the grid.
use Prim.Native.Nat.{ℕ, zero, suc, ◌+◌, ◌*◌, ◌/◌, ◌%◌, ◌≤◌, ◌<◌, min}
use mathlib.Core.Path.{◌≡◌, refl, ap, ap₂, sym, ◌∙◌}
use mathlib.Core.Bool.{Bool, true, false, or-false, true≢false}
use mathlib.Core.Logic.{◌⊎◌, inl, inr}
use native.Mathlib.Nat.{add-zero, add-suc, add_assoc, mul-suc}
use native.Mathlib.Omega.{arith}
use lib.Dec.{eqb}
use borrow.Author.Tests.{eq-eqb, ne_eqb}
use Rattle.fairness.specs.Total.{on, total}
use Rattle.laws.proofs.Search.{eq_or_not}
use Rattle.fairness.proofs.Sums.{total_equal, total-on, total-one, one, one_self}
use Rattle.switch.specs.Rates.{sum_to}
use Rattle.switch.specs.Planned.{passes}

pub sum_to_same : (n : ℕ) (f g : ℕ → ℕ) → ((i : ℕ) → i < n → f i ≡ g i) → sum_to n f ≡ sum_to n g
unfolding sum_to
sum_to_same zero f g h = refl
sum_to_same (suc n) f g h = ap₂ ◌+◌ (sum_to_same n f g (λ i l. h i (omega arith))) (h n (omega arith))

-- Numbers that are 0 from n on add nothing.
pub sum_to_more : (n k : ℕ) (f : ℕ → ℕ) → ((i : ℕ) → n ≤ i → i < n + k → f i ≡ 0) → sum_to (n + k) f ≡ sum_to n f
unfolding sum_to
sum_to_more n zero f h = rw add-zero
sum_to_more n (suc k) f h =
    rw add-suc (omega (arith, h (n + k) (omega arith) (omega arith), sum_to_more n k f (λ i l m. h i l (omega arith))))

total_all : (n : ℕ) (f : ℕ → ℕ) → total n (λ i. true) f ≡ sum_to n f
unfolding total sum_to
total_all zero f = refl
total_all (suc n) f = ap (λ k. k + f n) (total_all n f)

total_same : (n : ℕ) (s : ℕ → Bool) (x f : ℕ → ℕ) → ((i : ℕ) → i < n → on (s i) (x i) ≡ f i) → total n s x ≡ sum_to n f
total_same n s x f h = sym (total-on n s x) ∙ total_all n (λ i. on (s i) (x i)) ∙ sum_to_same n (λ i. on (s i) (x i)) f h

-- One number alone is in the set.
total-single : (n : ℕ) (s : ℕ → Bool) (x : ℕ → ℕ) (v : ℕ) → v < n → ((i : ℕ) → i < n → s i ≡ eqb i v) → total n s x ≡ x v
total-single n s x v h only =
    let sums =
    total_equal n s x (one v) (one v) 1 (x v) 0 (λ i l m. go i m (only i l) (eq_or_not i v)) in
    let e = ap (λ k. k * x v) (total-one n s v h (only v h ∙ eq-eqb v v refl)) in
    omega arith
  where
    go : (i : ℕ) → s i ≡ true → s i ≡ eqb i v → (i ≡ v) ⊎ (i ≡ v → ⊥) → x i * 1 ≡ one v i * x v + one v i * 0
    go i m e (inl q) = rw (q, one_self v) (omega arith)
    go i m e (inr n) = absurd (true≢false (sym m ∙ e ∙ ne_eqb i v n))

total-add : (n k : ℕ) (s : ℕ → Bool) (x : ℕ → ℕ) → total (n + k) s x ≡ total n s x + total k (λ i. s (n + i)) (λ i. x (n + i))
unfolding total
total-add n zero s x = rw (add-zero n) (sym (add-zero (total n s x)))
total-add n (suc k) s x =
    rw (add-suc n k, total-add n k s x)
    (add_assoc (total n s x) (total k (λ i. s (n + i)) (λ i. x (n + i))) (on (s (n + k)) (x (n + k))))

-- Row after row.
total-rows : (k : ℕ) (s : ℕ → Bool) (x : ℕ → ℕ)
    → total (8 * k) s x ≡ sum_to k (λ i. total 8 (λ j. s (8 * i + j)) (λ j. x (8 * i + j)))
unfolding total sum_to
total-rows zero s x = refl
total-rows (suc k) s x =
    rw (mul-suc 8 k, total-add (8 * k) 8 s x) (ap (λ t. t + total 8 (λ j. s (8 * k + j)) (λ j. x (8 * k + j))) (total-rows k s x))

-- What a port's limit says of the cell in row i and column j.
pub passes_input : (u i j : ℕ) → u < 8 → i < 8 → j < 8 → passes u (8 * i + j) ≡ eqb i u
passes_input u i j hu hi hj =
    let row : min ((8 * i + j) / 8) 8 ≡ i = omega arith in
    rw (row, ne_eqb (8 + (8 * i + j) % 8) u (λ e. omega arith), or-false)

pub passes_output : (v i j : ℕ) → v < 8 → i < 8 → j < 8 → passes (8 + v) (8 * i + j) ≡ eqb j v
passes_output v i j hv hi hj = rw (ne_eqb (min ((8 * i + j) / 8) 8) (8 + v) (λ e. omega arith)) (go (eq_or_not j v))
  where
    go : (j ≡ v) ⊎ (j ≡ v → ⊥) → eqb (8 + (8 * i + j) % 8) (8 + v) ≡ eqb j v
    go (inl e) = eq-eqb (8 + (8 * i + j) % 8) (8 + v) (omega arith) ∙ sym (eq-eqb j v e)
    go (inr n) = ne_eqb (8 + (8 * i + j) % 8) (8 + v) (λ e. n (omega arith)) ∙ sym (ne_eqb j v n)

on_all : (b : Bool) (s : ℕ → Bool) (x : ℕ → ℕ) → ((j : ℕ) → j < 8 → s j ≡ b) → total 8 s x ≡ on b (sum_to 8 x)
unfolding sum_to
on_all true s x h = total_same 8 s x x (λ j l. rw (h j l))
on_all false s x h = total_same 8 s x (λ j. 0) (λ j l. rw (h j l))

-- The cells of an input are a row,
pub row_total : (u : ℕ) (x : ℕ → ℕ) → u < 8 → total 64 (passes u) x ≡ sum_to 8 (λ k. x (8 * u + k))
row_total u x hu =
    total-rows 8 (passes u) x
    ∙ sum_to_same 8 _ (λ i. on (eqb i u) (sum_to 8 (λ k. x (8 * u + k)))) (λ i hi. inner i hi (eq_or_not i u))
    ∙ sym (total_same 8 (λ i. eqb i u) (λ i. sum_to 8 (λ k. x (8 * u + k))) _ (λ i hi. refl))
    ∙ total-single 8 (λ i. eqb i u) (λ i. sum_to 8 (λ k. x (8 * u + k))) u hu (λ i hi. refl)
  where
    inner : (i : ℕ) → i < 8 → (i ≡ u) ⊎ (i ≡ u → ⊥)
        → total 8 (λ j. passes u (8 * i + j)) (λ j. x (8 * i + j)) ≡ on (eqb i u) (sum_to 8 (λ k. x (8 * u + k)))
    inner i hi (inl e) = on_all (eqb i u) _ _ (λ j hj. passes_input u i j hu hi hj) ∙ rw e
    inner i hi (inr n) = on_all (eqb i u) _ _ (λ j hj. passes_input u i j hu hi hj) ∙ rw (ne_eqb i u n)

-- and those of an output a column.
pub column_total : (v : ℕ) (x : ℕ → ℕ) → v < 8 → total 64 (passes (8 + v)) x ≡ sum_to 8 (λ k. x (8 * k + v))
column_total v x hv =
    total-rows 8 (passes (8 + v)) x
    ∙ sum_to_same 8 _ (λ k. x (8 * k + v))
    (λ i hi. total-single 8 (λ j. passes (8 + v) (8 * i + j)) (λ j. x (8 * i + j)) v hv (λ j hj. passes_output v i j hv hi hj))
