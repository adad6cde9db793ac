-- The plan of a request: what makes a plan right, and one way to work it out.
use Rattle.std.specs.Prelude.{ℕ, ◌/◌, ◌-◌, ◌<◌, Bool, cond, ◌||◌, ◌≡◌, List, eqb, ltb, length, get_or}
use Rattle.fairness.specs.Problem.{Problem}
use Rattle.laws.specs.Lists.{list}
use Rattle.fairness.specs.Filling.{State, filled}
use Rattle.fairness.specs.Divisor.{gcd_of, divided}
use Rattle.switch.specs.Cells.{input, output, input_of, output_of, input_limit, output_limit, input_capacity, output_capacity, demand_of}
use Rattle.switch.specs.Rates.{rates_of}
use Rattle.switch.specs.Fairness.{Fair, LeastBase, Blank}
use Rattle.switch.specs.Reason.{reason_of}
use Rattle.switch.specs.declared.plan.Plan.{Plan}
use Rattle.switch.specs.declared.request.Request.{Request}

-- A plan is right: its rates are fair, over the least base, and it gives every cell its reason; unused cells hold 0.
pub record Right (r : Request) (p : Plan) : Type 0 where
  pub fair : Fair r (rates_of p)
  pub least : LeastBase r (rates_of p)
  pub blank : Blank r (rates_of p)
  pub reasons : (c : ℕ) → c < 64 → get_or p.reasons c 0 ≡ reason_of r (rates_of p) c
  pub cells : (length p.numerators ≡ 64) × (length p.reasons ≡ 64)

-- The switch as a problem of sharing: its 64 cells are the flows and its 16 ports the limits, without minima, and all
-- weights 1. A flow passes the limits of its input and of its output.
abbrev pub passes : ℕ → ℕ → Bool
passes l c = eqb (input_limit (input_of c)) l || eqb (output_limit (output_of c)) l

abbrev pub capacity_of : Request → ℕ → ℕ
capacity_of r l = cond (ltb l 8) (input_capacity r (input l)) (output_capacity r (output (l - 8)))

abbrev pub problem_of : Request → Problem
problem_of r =
    record {
      flows = 64;
      limits = 16;
      through = passes;
      capacity = capacity_of r;
      demand = demand_of r;
      minimum = λ c. 0;
      weight = λ c. 1;
    }

-- Rates, laid out as a plan with the reasons they have.
unfoldable pub plan_from : Request → ℕ → List ℕ → Plan
plan_from r b xs =
    record {
      base = b;
      numerators = xs;
      reasons = list 64 (reason_of r (record { base = b; numerator = λ c. get_or xs c 0 }));
    }

-- The filled state, divided by the greatest common divisor of its base and numerators.
unfoldable pub plan_of_state : Request → State → Plan
plan_of_state r s = let g = gcd_of s.base s.fixed in plan_from r (s.base / g) (divided g s.fixed)

-- The plan of a request: water-filling, reduced to the least base, with its reasons.
unfoldable pub plan_of : Request → Plan
plan_of r = plan_of_state r (filled (problem_of r))
