-- Numbers in decimal, as a text writes them and as they are read.
use Rattle.std.specs.Prelude.{ℕ, zero, suc, ◌+◌, ◌-◌, ◌*◌, ◌/◌, ◌%◌, ◌≤◌, ◌<◌, ◌≡◌, true, false, ltb, get_or}
use mathlib.Core.List.{List, [], ◌∷◌, ◌++◌, Memᴰ}

-- The digits of x, the highest first, of which the byte 48 is the digit 0: below 10 x is its own digit, otherwise the digits of
-- x / 10 come before the last one. There are never more digits than `depth`, if that is above x.
unfoldable pub digits : ℕ → ℕ → List ℕ
digits zero x = []
digits (suc depth) x =
    elim (ltb x 10) [ true ↦ (48 + x) ∷ [] | false ↦ digits depth (x / 10) ++ ((48 + x % 10) ∷ []) ]

unfoldable pub decimal : ℕ → List ℕ
decimal x = digits (suc x) x

-- The number that digits say, read from the first on, after a number that was read before them.
unfoldable pub read_on : ℕ → List ℕ → ℕ
read_on x [] = x
read_on x (b ∷ rest) = read_on (10 * x + (b - 48)) rest

-- What makes bytes the decimal form of a number.
pub record Numeral (x : ℕ) (bytes : List ℕ) : Type 0 where
  -- they say the number,
  pub value : read_on 0 bytes ≡ x
  -- they are digits and nothing else,
  pub each : (b : ℕ) → Memᴰ b bytes → (48 ≤ b) × (b ≤ 57)
  -- none of them is a 0 in front, but that the number 0 is written as one
  pub first : 0 < x → 48 < get_or bytes 0 0
  pub zero : x ≡ 0 → bytes ≡ 48 ∷ []
