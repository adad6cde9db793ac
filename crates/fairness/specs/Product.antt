-- The sum and the product of a list.
use Rattle.std.specs.Prelude.{ℕ, ◌+◌, ◌*◌, List, [], ◌∷◌}

-- All elements added up.
unfoldable pub sum : List ℕ → ℕ
sum [] = 0
sum (x ∷ xs) = x + sum xs

-- All elements multiplied.
unfoldable pub product : List ℕ → ℕ
product [] = 1
product (x ∷ xs) = x * product xs
