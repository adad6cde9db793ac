-- The laws of sums over the flows of a set. One law, `total_linear`, carries nearly all of them.
use Prim.Native.Nat.{ℕ, zero, suc, ◌+◌, ◌*◌, ◌≤◌, ◌<◌}
use mathlib.Core.Path.{◌≡◌, refl, ap}
use mathlib.Core.Bool.{Bool, true, false}
use mathlib.Core.Logic.{◌⊎◌, inl, inr}
use native.Mathlib.Omega.{arith}
use native.Mathlib.Nat.{not-suc-le-zero, le_refl, le_dest, add-zero, add-suc}
use native.Mathlib.Numerals.{add-one}
use lib.Dec.{eqb}
use borrow.Author.Tests.{eq-eqb, ne_eqb}
use Rattle.fairness.specs.Total.{on, total}
use Rattle.laws.proofs.Search.{le_or_lt, eq_or_not, true_or_false, true_not_false}

on_linear : (b : Bool) (x k y j x' k' y' j' : ℕ) → (b ≡ true → x * k + y * j ≤ x' * k' + y' * j')
    → on b x * k + on b y * j ≤ on b x' * k' + on b y' * j'
on_linear true x k y j x' k' y' j' h = h refl
on_linear false x k y j x' k' y' j' h = omega arith

pub on_at_most : (b : Bool) (k : ℕ) → on b k ≤ k
on_at_most true k = omega arith
on_at_most false k = omega arith

-- An inequality that is linear in four numbers and holds of each flow of a set holds of their sums: this is
-- monotonicity, strictness, scaling and exchange at once.
pub total_linear : (n : ℕ) (in_set : ℕ → Bool) (x y x' y' : ℕ → ℕ) (k j k' j' : ℕ)
    → ((i : ℕ) → i < n → in_set i ≡ true → x i * k + y i * j ≤ x' i * k' + y' i * j')
    → total n in_set x * k + total n in_set y * j ≤ total n in_set x' * k' + total n in_set y' * j'
unfolding total
total_linear zero in_set x y x' y' k j k' j' h = omega arith
total_linear (suc n) in_set x y x' y' k j k' j' h =
    let rest = total_linear n in_set x y x' y' k j k' j' (λ i l e. h i (omega arith) e) in
    let here = on_linear (in_set n) (x n) k (y n) j (x' n) k' (y' n) j' (λ e. h n (omega arith) e) in
    omega arith

-- The number 1 at flow f, and 0 at every other.
unfoldable pub one : ℕ → ℕ → ℕ
one f c = on (eqb c f) 1

pub one_self : (f : ℕ) → one f f ≡ 1
unfolding one
one_self f = rw (eq-eqb f f refl)

pub one_other : (f c : ℕ) → (c ≡ f → ⊥) → one f c ≡ 0
unfolding one
one_other f c n = rw (ne_eqb c f n)

on-zero : (b : Bool) → on b 0 ≡ 0
on-zero true = refl
on-zero false = refl

-- A sum over the flow f alone.
total-one_out : (n : ℕ) (in_set : ℕ → Bool) (f : ℕ) → n ≤ f → total n in_set (one f) ≡ 0
unfolding total
total-one_out zero in_set f h = refl
total-one_out (suc n) in_set f h =
    rw (total-one_out n in_set f (omega arith), one_other f n (λ e. omega arith), on-zero)

pub total-one : (n : ℕ) (in_set : ℕ → Bool) (f : ℕ) → f < n → in_set f ≡ true → total n in_set (one f) ≡ 1
unfolding total
total-one zero in_set f h e = absurd (not-suc-le-zero h)
total-one (suc n) in_set f h e = go (λ l. total-one n in_set f l e) (le_or_lt n f)
  where
    go : (f < n → total n in_set (one f) ≡ 1) → (n ≤ f) ⊎ (f < n) → total n in_set (one f) + on (in_set n) (one f n) ≡ 1
    go below (inl l) =
        let q : f ≡ n = omega arith in
        rw (q, total-one_out n in_set n (le_refl n), one_self n, rw q at e)
    go below (inr l) = rw (below l, one_other f n (λ e. omega arith), on-zero)

-- One factor on each side.
pub total-le : (n : ℕ) (in_set : ℕ → Bool) (x y : ℕ → ℕ) (k j : ℕ)
    → ((i : ℕ) → i < n → in_set i ≡ true → x i * k ≤ y i * j) → total n in_set x * k ≤ total n in_set y * j
total-le n in_set x y k j h =
    let l = total_linear n in_set x x y y k 0 j 0 (λ i hi m. let hm = h i hi m in omega arith) in omega arith

-- The same of an equation.
pub total_equal : (n : ℕ) (in_set : ℕ → Bool) (x y z : ℕ → ℕ) (k j i : ℕ)
    → ((c : ℕ) → c < n → in_set c ≡ true → x c * k ≡ y c * j + z c * i) → total n in_set x * k ≡ total n in_set y * j + total n in_set z * i
total_equal n in_set x y z k j i h =
    let up = total_linear n in_set x x y z k 0 j i (λ c hc m. let e = h c hc m in omega arith) in
    let down = total_linear n in_set y z x x j i k 0 (λ c hc m. let e = h c hc m in omega arith) in
    omega arith

-- Of flows that agree the sums are the same, and the sum of nothing is 0.
pub total_same : (n : ℕ) (in_set : ℕ → Bool) (x y : ℕ → ℕ) → ((c : ℕ) → c < n → x c ≡ y c) → total n in_set x ≡ total n in_set y
total_same n in_set x y same =
    let sums = total_equal n in_set x y y 1 1 0 (λ c hc m. omega (arith, same c hc)) in omega arith

pub total-zero : (n : ℕ) (in_set : ℕ → Bool) (x : ℕ → ℕ) → ((c : ℕ) → c < n → in_set c ≡ true → x c ≡ 0) → total n in_set x ≡ 0
total-zero n in_set x none = let sums = total-le n in_set x x 1 0 (λ c hc m. omega (arith, none c hc m)) in omega arith

-- A sum over the flow f alone, which the set may have or not.
pub total_own : (n : ℕ) (in_set : ℕ → Bool) (f k : ℕ) → f < n → total n in_set (one f) * k ≡ on (in_set f) k
total_own n in_set f k h = go (true_or_false (in_set f))
  where
    none : in_set f ≡ false → (c : ℕ) → c < n → in_set c ≡ true → one f c ≡ 0
    none out c hc m = one_other f c (λ q. true_not_false m (rw q out))

    go : (in_set f ≡ true) ⊎ (in_set f ≡ false) → total n in_set (one f) * k ≡ on (in_set f) k
    go (inl t) = rw (t, total-one n in_set f h t) (omega arith)
    go (inr out) = rw (out, total-zero n in_set (one f) (none out)) (omega arith)

one_times : (x : ℕ → ℕ) (f c : ℕ) → one f c * x f ≤ x c * 1
one_times x f c = go (eq_or_not c f)
  where
    go : (c ≡ f) ⊎ (c ≡ f → ⊥) → one f c * x f ≤ x c * 1
    go (inl e) = rw (e, one_self f) (omega arith)
    go (inr n) = rw (one_other f c n) (omega arith)

pub member_le_total : (n : ℕ) (in_set : ℕ → Bool) (x : ℕ → ℕ) (f : ℕ) → f < n → in_set f ≡ true → x f ≤ total n in_set x
member_le_total n in_set x f h m =
    let l = total-le n in_set (one f) x (x f) 1 (λ c hc mc. one_times x f c) in
    let e = ap (λ k. k * x f) (total-one n in_set f h m) in
    omega arith

-- A sum over a set is a sum over all flows of what the set lets through.
pub total-on : (n : ℕ) (in_set : ℕ → Bool) (x : ℕ → ℕ) → total n (λ c. true) (λ c. on (in_set c) (x c)) ≡ total n in_set x
unfolding total
total-on zero in_set x = refl
total-on (suc n) in_set x = rw (total-on n in_set x)

-- Counting: what passes one test passes the other.
pub on_one : (s t : Bool) → (s ≡ true → t ≡ true) → on s 1 ≤ on t 1
on_one true t h = rw (h refl) (omega arith)
on_one false t h = omega arith

-- Sums over one flow more, and over several.
pub total_next : (i : ℕ) (s : ℕ → Bool) (x : ℕ → ℕ) → total (i + 1) s x ≡ total i s x + on (s i) (x i)
unfolding total
total_next i s x = rw (add-one i)

pub on_nothing : (b : Bool) (x : ℕ) → x ≡ 0 → on b x ≡ 0
on_nothing true x e = e
on_nothing false x e = refl

-- A longer sum is no smaller; and no greater, if the rest is 0.
total_plus : (i k : ℕ) (s : ℕ → Bool) (x : ℕ → ℕ) → total i s x ≤ total (i + k) s x
unfolding total
total_plus i zero s x = rw add-zero (omega arith)
total_plus i (suc k) s x = rw add-suc (omega (arith, total_plus i k s x))

pub total_up : (i j : ℕ) (s : ℕ → Bool) (x : ℕ → ℕ) → i ≤ j → total i s x ≤ total j s x
total_up i j s x h = let w = le_dest h in rw (← w.1) (total_plus i w.0 s x)

pub total_past : (i k : ℕ) (s : ℕ → Bool) (x : ℕ → ℕ) → ((c : ℕ) → i ≤ c → c < i + k → x c ≡ 0) → total (i + k) s x ≡ total i s x
unfolding total
total_past i zero s x none = rw add-zero
total_past i (suc k) s x none =
    rw add-suc
    (omega (
      arith,
      total_past i k s x (λ c g h. none c g (omega arith)),
      on_nothing (s (i + k)) (x (i + k)) (none (i + k) (omega arith) (omega arith)),
    ))
