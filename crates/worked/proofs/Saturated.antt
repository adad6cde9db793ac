-- Numbers that stop at the largest of 64 bits: when products fit, how they are split, and what comparisons with a smaller
-- number still say.
use Prim.Native.Nat.{ℕ, ◌+◌, ◌*◌, ◌/◌, ◌%◌, ◌≤◌, ◌<◌}
use mathlib.Core.Logic.{◌⊎◌, inl, inr}
use mathlib.Core.Path.{◌≡◌, sym, ◌∙◌, ap}
use native.Mathlib.Nat.{mul-le-mul, div-add-mod}
use native.Mathlib.Omega.{arith}
use lib.Dec.{eqb, ltb}
use borrow.Author.Tests.{eq-eqb, ne_eqb, lt-ltb, le-ltb}
use Rattle.laws.proofs.Search.{le_or_lt, eq_or_not}
use Rattle.worked.specs.Saturated.{capped, largest}

pub product_below : (a b : ℕ) → a < 4_294_967_296 → b ≤ 4_294_967_296 → a * b < 18_446_744_073_709_551_616
product_below a b ha hb =
    let low : a ≤ 4_294_967_295 = omega arith in
    omega (arith, mul-le-mul low hb)

-- Stands because docs/PORT-NAMES.md names it; no function cites it today.
pub product_split : (a b : ℕ) → a * b ≡ a * (b / 4_294_967_296) * 4_294_967_296 + a * (b % 4_294_967_296)
product_split a b = omega (arith, ap (λ x. a * x) (div-add-mod b 4_294_967_296))

-- A sum that was stopped compares with a smaller number as the sum itself does.
module _ (s k : ℕ) (small : k < largest) where
  pub ltb_capped : ltb k (capped s) ≡ ltb k s
  ltb_capped = go (le_or_lt s k)
    where
      go : (s ≤ k) ⊎ (k < s) → ltb k (capped s) ≡ ltb k s
      go (inl h) = le-ltb k (capped s) (omega arith) ∙ sym (le-ltb k s h)
      go (inr h) = lt-ltb k (capped s) (omega arith) ∙ sym (lt-ltb k s h)

  pub eqb_capped : eqb (capped s) k ≡ eqb s k
  eqb_capped = go (eq_or_not s k)
    where
      go : (s ≡ k) ⊎ (s ≡ k → ⊥) → eqb (capped s) k ≡ eqb s k
      go (inl e) = eq-eqb (capped s) k (omega arith) ∙ sym (eq-eqb s k e)
      go (inr n) = ne_eqb (capped s) k (λ e. n (omega arith)) ∙ sym (ne_eqb s k n)
