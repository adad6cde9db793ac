-- A product of few divisors with a small sum is small.
use Prim.Native.Nat.{ℕ, zero, suc, ◌+◌, ◌*◌, ◌^◌, ◌≤◌, ◌<◌}
use mathlib.Core.Path.{◌≡◌}
use mathlib.Core.List.{List, [], ◌∷◌}
use native.Mathlib.Nat.{add-suc, add-zero, le_dest, le_of_lt, le_of_mul-le-mul_right, le_refl}
use native.Mathlib.Nat.{lt_of_not-le, mul-le-mul, mul-le-mul_right, mul-pos, one-le-pow, pow-le-pow_left, pow-suc}
use native.Mathlib.Decide.{dec_le}
use native.Mathlib.Omega.{arith}
use lib.ListN.{length}
use lib.Dec.{lit≤}
use lib.Pow.{pow-add}
use Rattle.fairness.specs.Product.{sum, product}

-- k is at most a * ((a + 1) / a) ^ (k - a), without a fraction; k ≡ a and k ≡ a + 1 make it an equality.
abbrev OneDivisor : ℕ → ℕ → Type 0
OneDivisor a k = k * a ^ k * (a + 1) ^ a ≤ a * a ^ a * (a + 1) ^ k

step_up : (a k : ℕ) → a ≤ k → OneDivisor a k → OneDivisor a (suc k)
step_up a k h p = simp pow-suc
    (omega (arith, mul-le-mul_right (a + 1) p, mul-le-mul_right (a ^ k * (a + 1) ^ a) h))

step_down : (a k : ℕ) → k ≤ a → OneDivisor a (suc k) → OneDivisor a k
step_down a k h p = le_of_mul-le-mul_right {k = a + 1}
    (omega (arith, simp pow-suc at p, mul-le-mul_right (a ^ k * (a + 1) ^ a) h)) (omega arith)

above : (a r : ℕ) → OneDivisor a (a + r)
above a zero = rw add-zero (le_refl _)
above a (suc r) = rw (add-suc a r) (step_up a (a + r) (omega arith) (above a r))

below : (a r k : ℕ) → k + r ≡ a → OneDivisor a k
below a zero k e = let same : k ≡ a = omega arith in rw same (le_refl _)
below a (suc r) k e = step_down a k (omega arith) (below a r (suc k) (omega arith))

pub one_divisor : (a k : ℕ) → k * a ^ k * (a + 1) ^ a ≤ a * a ^ a * (a + 1) ^ k
one_divisor a k = split (dec_le a k)
  where
    split : Dec (a ≤ k) → OneDivisor a k
    split (yes h) = let (r, e) = le_dest h in rw e at (above a r)
    split (no h) = let (r, e) = le_dest (le_of_lt (lt_of_not-le h)) in below a r k e

-- The bound grows with j and with S, so at most j divisors of sum at most S are as good as exactly so many.
pub product_bound : (a : ℕ) → (a + 1) ^ a ≤ a * a ^ a → (ks : List ℕ) (j S : ℕ) → length ks ≤ j → sum ks ≤ S
    → product ks * a ^ S * ((a + 1) ^ a) ^ j ≤ (a * a ^ a) ^ j * (a + 1) ^ S
unfolding sum product
product_bound a grows [] j S l s =
    omega (arith, mul-le-mul (pow-le-pow_left grows j) (pow-le-pow_left {n = a} {m = a + 1} (omega arith) S))
product_bound a grows (k ∷ ks) zero S l s = omega arith
product_bound a grows (k ∷ ks) (suc j) S l s =
    let (r, e) = le_dest {n = k} {m = S} (omega arith) in
    let rest = product_bound a grows ks j r (omega arith) (omega arith) in
    rw (← e) (simp (pow-add, pow-suc) (omega (arith, mul-le-mul (one_divisor a k) rest)))

-- At numerals all that is left to check is a comparison of closed numbers.
pub product_below : (a j S m : ℕ) → 0 < a → (a + 1) ^ a ≤ a * a ^ a
    → (a * a ^ a) ^ j * (a + 1) ^ S ≤ m * (a ^ S * ((a + 1) ^ a) ^ j)
    → (ks : List ℕ) → length ks ≤ j → sum ks ≤ S → product ks ≤ m
product_below a j S m pos grows enough ks l s =
    le_of_mul-le-mul_right {k = a ^ S * ((a + 1) ^ a) ^ j} (omega (arith, product_bound a grows ks j S l s)) factor_pos
  where
    factor_pos : 0 < a ^ S * ((a + 1) ^ a) ^ j
    factor_pos = mul-pos (one-le-pow S a pos) (one-le-pow j ((a + 1) ^ a) (one-le-pow a (a + 1) (omega arith)))

-- Without weights: 16 limits and 64 flows.
pub ports_bound : (ks : List ℕ) → length ks ≤ 16 → sum ks ≤ 64 → product ks ≤ 4294967296
ports_bound = product_below 4 16 64 4294967296 (lit≤ tt) (lit≤ tt) (lit≤ tt)

-- With cards: 20 limits and 64 flows.
pub cards_bound : (ks : List ℕ) → length ks ≤ 20 → sum ks ≤ 64 → product ks ≤ 17179869184
cards_bound = product_below 3 20 64 17179869184 (lit≤ tt) (lit≤ tt) (lit≤ tt)

-- With weights: 8 limits, and weights that add up to 128.
pub weights_bound : (ks : List ℕ) → length ks ≤ 8 → sum ks ≤ 128 → product ks ≤ 4294967296
weights_bound = product_below 16 8 128 4294967296 (lit≤ tt) (lit≤ tt) (lit≤ tt)
