-- The limits of the engine and the flows that pass them. Ports come first, inputs before outputs; a chassis with cards has
-- four limits more, two for the input cards and two for the output cards.
use Rattle.std.specs.Prelude.{ℕ, ◌+◌, ◌/◌, ◌%◌, Bool, cond, List, eqb, ltb}
use Rattle.laws.specs.Lists.{cells}
use Rattle.fairness.specs.Problem.{Problem}

-- How many limits there are.
abbrev pub limits_of : Bool → ℕ
limits_of cards = cond cards 20 16

-- The flow of a cell passes its input, its output, its input's card and its output's card.
unfoldable pub through : ℕ → ℕ → Bool
through l c =
    cond (ltb l 8) (eqb (c / 8) l)
    (cond (ltb l 16) (eqb (8 + c % 8) l) (cond (ltb l 18) (eqb (16 + c / 32) l) (eqb (18 + c % 8 / 4) l)))

-- The problem of sharing that the engine is handed: 64 flows, and a number for each limit or flow in every table.
abbrev pub problem : Bool → List ℕ → List ℕ → List ℕ → List ℕ → Problem
problem cards capacities demands minima weights =
    record {
      flows = 64;
      limits = limits_of cards;
      through = through;
      capacity = cells capacities;
      demand = cells demands;
      minimum = cells minima;
      weight = cells weights;
    }
