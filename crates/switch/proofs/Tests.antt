-- Laws of tests joined by 'and', and of a number that may not pass a bound where a test holds.
use Prim.Native.Nat.{ℕ, ◌≤◌}
use mathlib.Core.Path.{◌≡◌, refl}
use mathlib.Core.Bool.{Bool, true, false, ◌&&◌}
use lib.Dec.{ltb}
use borrow.Author.Tests.{le-ltb, ltb-false}
use Rattle.switch.specs.RequestRows.{above}

pub and_false_of : (a b : Bool) → (a ≡ true → b ≡ false) → (a && b) ≡ false
and_false_of true b h = h refl
and_false_of false b h = refl

pub second_false : (a b : Bool) → (a && b) ≡ false → a ≡ true → b ≡ false
second_false true b e h = e
second_false false b e h = cc

pub le_of_not_above : (b : Bool) (most x : ℕ) → above b most x ≡ false → b ≡ true → x ≤ most
le_of_not_above b most x e h = ltb-false most x (second_false b (ltb most x) e h)

pub not_above_of_le : (b : Bool) (most x : ℕ) → (b ≡ true → x ≤ most) → above b most x ≡ false
not_above_of_le b most x h = and_false_of b (ltb most x) (λ e. le-ltb most x (h e))
