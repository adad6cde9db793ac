-- Fillings worked out by computing: the triangle of four inputs and four outputs, every capacity 1, and demand 1 on
-- and below the diagonal. Whatever changes the filling changes these numbers.
use Prim.Native.Nat.{ℕ, ◌+◌, ◌*◌, ◌/◌, ◌%◌}
use mathlib.Core.Bool.{◌||◌}
use mathlib.Core.List.{List, [], ◌∷◌}
use mathlib.Core.Path.{◌≡◌, refl}
use lib.Dec.{eqb, leb}
use Rattle.fairness.specs.Total.{on, total}
use Rattle.fairness.specs.Problem.{Problem}
use Rattle.laws.specs.Lists.{list_from, list}
use Rattle.fairness.specs.Filling.{start, lowest, next, some, stop_met, shut, free, happen, round, fill, work, filled}

-- flow 4u + v passes limit u, its input, and limit 4 + v, its output
triangle : (ℕ → ℕ) → (ℕ → ℕ) → Problem
triangle minimum weight =
    record {
      flows = 16;
      limits = 8;
      through = λ l c. eqb (c / 4) l || eqb (4 + c % 4) l;
      capacity = λ l. 1;
      demand = λ c. on (leb (c % 4) (c / 4)) 1;
      minimum = minimum;
      weight = weight;
    }

pub record Worked (P : Problem) (base : ℕ) (numerators : List ℕ) : Type 0 where
  pub base_is : (filled P).base ≡ base
  pub numerators_are : (filled P).fixed ≡ numerators

-- 2 / 2 3 / 2 3 3 / 2 2 2 2 over 8, before it is reduced
plain : Worked (triangle (λ c. 0) (λ c. 1)) 24 (6 ∷ 0 ∷ 0 ∷ 0 ∷ 6 ∷ 9 ∷ 0 ∷ 0 ∷ 6 ∷ 9 ∷ 9 ∷ 0 ∷ 6 ∷ 6 ∷ 6 ∷ 6 ∷ [])
unfolding triangle total list_from list start lowest next some stop_met shut free happen round fill work filled
plain = record { base_is = refl; numerators_are = refl }

-- flow 0 has a minimum of 1: it fills its output alone, and the others share what is left
guaranteed : Worked (triangle (λ c. on (eqb c 0) 1) (λ c. 1)) 18
    (18 ∷ 0 ∷ 0 ∷ 0 ∷ 0 ∷ 6 ∷ 0 ∷ 0 ∷ 0 ∷ 6 ∷ 12 ∷ 0 ∷ 0 ∷ 6 ∷ 6 ∷ 6 ∷ [])
unfolding triangle total list_from list start lowest next some stop_met shut free happen round fill work filled
guaranteed = record { base_is = refl; numerators_are = refl }

-- flow 12, from input 3 to output 0, weighs 3
weighted : Worked (triangle (λ c. 0) (λ c. 1 + 2 * on (eqb c 12) 1)) 36
    (6 ∷ 0 ∷ 0 ∷ 0 ∷ 6 ∷ 15 ∷ 0 ∷ 0 ∷ 6 ∷ 15 ∷ 15 ∷ 0 ∷ 18 ∷ 6 ∷ 6 ∷ 6 ∷ [])
unfolding triangle total list_from list start lowest next some stop_met shut free happen round fill work filled
weighted = record { base_is = refl; numerators_are = refl }
