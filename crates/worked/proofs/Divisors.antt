-- The steps of Euclid's algorithm, of a common divisor and of a division of a whole table.
use Prim.Native.Nat.{ℕ, zero, suc, ◌+◌, ◌%◌, ◌/◌, ◌<◌, ◌∣◌}
use mathlib.Core.Path.{◌≡◌, refl, ◌∙◌, ap}
use mathlib.Core.List.{List, [], ◌∷◌, ◌++◌, map}
use native.Mathlib.Nat.{mod-lt, not-suc-le-zero, le_of_suc-le-suc, eq-one_of_dvd-one, eq-zero_of_zero-dvd, div-one}
use native.Mathlib.Numerals.{add-one}
use native.Mathlib.Omega.{arith}
use lib.ListN.{length, get_or, set, take, drop, length-map}
use lib.Seq.{drop-cons, ext_get_or}
use Rattle.fairness.specs.Divisor.{euclid, gcd, gcd_of, divided, GcdOf}
use Rattle.fairness.proofs.Divisors.{gcd_comm, gcd_of_is}
use Rattle.fairness.proofs.LeastBase.{get_or-divided}

-- The algorithm ends of itself, so that more steps than it needs change nothing.
euclid_enough : (n k a b : ℕ) → b < n → b < k → euclid n a b ≡ euclid k a b
unfolding euclid
euclid_enough zero k a b h l = absurd (not-suc-le-zero h)
euclid_enough (suc n) zero a b h l = absurd (not-suc-le-zero l)
euclid_enough (suc n) (suc k) a zero h l = refl
euclid_enough (suc n) (suc k) a (suc b) h l =
    let small = mod-lt a {m = suc b} (omega arith) in
    euclid_enough n k (suc b) (a % suc b) (omega arith) (omega arith)

pub gcd_step : (a b : ℕ) → 0 < b → gcd b (a % b) ≡ gcd a b
unfolding gcd euclid
gcd_step a zero h = absurd (not-suc-le-zero h)
gcd_step a (suc b) h =
    euclid_enough (suc (a % suc b)) (suc b) (suc b) (a % suc b) (omega arith) (mod-lt a {m = suc b} (omega arith))

pub gcd-zero : (a : ℕ) → gcd a 0 ≡ a
unfolding gcd euclid
gcd-zero a = refl

-- The next number of a list goes into the divisor.
pub gcd_of_step : (g : ℕ) (xs : List ℕ) (i : ℕ) → i < length xs
    → gcd_of (gcd (get_or xs i 0) g) (drop (i + 1) xs) ≡ gcd_of g (drop i xs)
unfolding gcd_of
gcd_of_step g xs i h =
    rw (add-one i, drop-cons xs i 0 h) (ap (λ d. gcd_of d (drop (suc i) xs)) (gcd_comm (get_or xs i 0) g))

pub gcd_of_none : (g : ℕ) → gcd_of g [] ≡ g
unfolding gcd_of
gcd_of_none g = refl

-- Nothing but 1 divides 1.
pub gcd_of-one : (xs : List ℕ) → gcd_of 1 xs ≡ 1
gcd_of-one xs = eq-one_of_dvd-one (gcd_of_is 1 xs).base

-- A table whose numbers are exchanged from the front, each by what a rule makes of it.
pub map_more : (f : ℕ → ℕ) (n : ℕ) (d : List ℕ) → n < length d
    → set (map f (take n d) ++ drop n d) n (f (get_or (map f (take n d) ++ drop n d) n 0))
    ≡ map f (take (n + 1) d) ++ drop (n + 1) d
map_more f n d h = rw (add-one n) (go n d h)
  where
    go : (n : ℕ) (d : List ℕ) → n < length d
        → set (map f (take n d) ++ drop n d) n (f (get_or (map f (take n d) ++ drop n d) n 0))
        ≡ map f (take (suc n) d) ++ drop (suc n) d
    go n [] l = absurd (not-suc-le-zero l)
    go zero (x ∷ d) l = refl
    go (suc n) (x ∷ d) l = ap (λ (t : List ℕ). f x ∷ t) (go n d (le_of_suc-le-suc l))

-- A divisor of 1 changes nothing, and a divisor of 0 has only zeros to divide.
same_below_two : (g x : ℕ) → g ∣ x → g < 2 → x / g ≡ x
same_below_two zero x d h = rw (eq-zero_of_zero-dvd d)
same_below_two (suc zero) x d h = div-one x
same_below_two (suc (suc g)) x d h = absurd (omega arith)

pub reduced_below_two : (g b : ℕ) (xs : List ℕ) → GcdOf b xs g → g < 2 → (b / g ≡ b) × (divided g xs ≡ xs)
reduced_below_two g b xs common h = (
  same_below_two g b common.base h,
  ext_get_or 0 (divided g xs) xs (length-map xs (λ x. x / g))
      (λ i l. get_or-divided xs g i ∙ same_below_two g (get_or xs i 0) (common.each i) h),
)
