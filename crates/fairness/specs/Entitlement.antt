-- A problem in which one flow asks for something else: what a flow is entitled to is told by its rate there.
use Rattle.std.specs.Prelude.{ℕ, Bool, cond, eqb}
use Rattle.fairness.specs.Total.{on}
use Rattle.fairness.specs.Problem.{Problem, across}

-- The problem with the demand of flow f exchanged for d, and all else as it was.
abbrev pub asking : Problem → ℕ → ℕ → Problem
asking P f d =
    record {
      flows = P.flows;
      limits = P.limits;
      through = P.through;
      capacity = P.capacity;
      demand = λ c. cond (eqb c f) d (P.demand c);
      minimum = P.minimum;
      weight = P.weight;
    }

-- The weights, added up, of those flows through limit l that may ask for something.
abbrev pub sharing : (P : Problem) → (ℕ → Bool) → ℕ → ℕ
sharing P asks l = across P l (λ c. on (asks c) (P.weight c))
