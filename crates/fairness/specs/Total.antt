-- Sums of numbers over the flows of a set.
use Rattle.std.specs.Prelude.{ℕ, zero, suc, ◌+◌, Bool, true, false}

-- The number where the test passes, and 0 where it does not.
abbrev pub on : Bool → ℕ → ℕ
on true a = a
on false a = 0

-- The sum of x over those of the first n flows that are in the set.
unfoldable pub total : ℕ → (ℕ → Bool) → (ℕ → ℕ) → ℕ
total zero in_set x = 0
total (suc n) in_set x = total n in_set x + on (in_set n) (x n)
