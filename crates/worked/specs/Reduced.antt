-- A base and its numerators, divided by all that they have in common.
use Rattle.std.specs.Prelude.{ℕ, ◌/◌, List}
use Rattle.fairness.specs.Divisor.{gcd_of, divided}

-- The base over which the same rates are written with the least numbers.
abbrev pub reduced_base : ℕ → List ℕ → ℕ
reduced_base b xs = b / gcd_of b xs

-- The numerators over that base.
abbrev pub reduced_numerators : ℕ → List ℕ → List ℕ
reduced_numerators b xs = divided (gcd_of b xs) xs
