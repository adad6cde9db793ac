-- The greatest common divisor of two numbers, and of a number and a list.
use Rattle.std.specs.Prelude.{ℕ, zero, suc, ◌*◌, ◌/◌, ◌%◌, ◌<◌, List, [], ◌∷◌, map, length, get_or}
use Rattle.std.specs.Int.{◌∣◌}

-- Euclid's algorithm, with the number of steps that it may take.
unfoldable pub euclid : ℕ → ℕ → ℕ → ℕ
euclid zero a b = a
euclid (suc n) a zero = a
euclid (suc n) a (suc b) = euclid n (suc b) (a % suc b)

-- The greatest common divisor of two numbers; of zero and zero it is zero.
unfoldable pub gcd : ℕ → ℕ → ℕ
gcd a b = euclid (suc b) a b

-- The greatest common divisor of a number and every element of a list.
unfoldable pub gcd_of : ℕ → List ℕ → ℕ
gcd_of b [] = b
gcd_of b (x ∷ xs) = gcd_of (gcd b x) xs

-- Every element of a list, divided by g.
abbrev pub divided : ℕ → List ℕ → List ℕ
divided g xs = map (λ x. x / g) xs

-- What makes g the greatest common divisor of a and b; the factor n spares every proof Bezout's equation.
pub record Gcd (a b g : ℕ) : Type 0 where
  pub left : g ∣ a
  pub right : g ∣ b
  pub most : (n d : ℕ) → d ∣ n * a → d ∣ n * b → d ∣ n * g

-- What makes g the greatest common divisor of b and every element of xs.
pub record GcdOf (b : ℕ) (xs : List ℕ) (g : ℕ) : Type 0 where
  pub base : g ∣ b
  pub each : (i : ℕ) → g ∣ get_or xs i 0
  pub most : (n d : ℕ) → d ∣ n * b → ((i : ℕ) → i < length xs → d ∣ n * get_or xs i 0) → d ∣ n * g
