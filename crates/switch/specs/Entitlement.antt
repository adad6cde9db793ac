-- What a flow is entitled to, whatever it asks for itself: the third demand. All of a request is fixed but one flow's demand.
use Rattle.std.specs.Prelude.{ℕ, ◌*◌, ◌≤◌, ◌<◌, min, ◌≡◌, set}
use Rattle.switch.specs.Cells.{input_of, output_of, input_capacity, output_capacity, demand_of}
use Rattle.switch.specs.Planned.{plan_of}
use Rattle.switch.specs.Rates.{rates_of}
use Rattle.switch.specs.declared.plan.Plan.{Plan}
use Rattle.switch.specs.declared.port.Input.{Input}
use Rattle.switch.specs.declared.port.Output.{Output}
use Rattle.switch.specs.declared.request.Request.{Request}

-- A request with the demand of one cell exchanged, and all else as it was.
abbrev pub with_demand : Request → ℕ → ℕ → Request
with_demand r c d =
    record { m = r.m; n = r.n; inputs = r.inputs; outputs = r.outputs; demands = set r.demands c d }

-- One rate by itself: a numerator over a base.
pub record Rate : Type 0 where
  pub numerator : ℕ
  pub base : ℕ

-- The rate that a plan gives the flow of a cell.
abbrev pub rate_of : Plan → ℕ → Rate
rate_of p c = record { numerator = (rates_of p).numerator c; base = p.base }

-- The entitlement of a cell's flow: what the plan gives it when it asks for as much as a flow can ask for.
abbrev pub entitlement : Request → ℕ → Rate
entitlement r c = rate_of (plan_of (with_demand r c 16_777_216)) c

-- The smaller of a demand and a rate, over that rate's base.
abbrev pub smaller : ℕ → Rate → Rate
smaller d x = record { numerator = min (d * x.base) x.numerator; base = x.base }

-- The smaller of the input's capacity divided by the number of outputs and the output's divided by the number of inputs: both
-- over the product of the two numbers.
abbrev pub floor_of : Request → Input → Output → Rate
floor_of r u v =
    record { numerator = min (input_capacity r u * r.m) (output_capacity r v * r.n); base = r.m * r.n }

-- Two rates are one, or in order: each numerator is multiplied with the other's base.
abbrev pub SameRate : Rate → Rate → Type 0
SameRate x y = x.numerator * y.base ≡ y.numerator * x.base

abbrev pub AtMost : Rate → Rate → Type 0
AtMost x y = x.numerator * y.base ≤ y.numerator * x.base

-- The third demand, for the flow of a cell.
pub record Entitled (r : Request) (c : ℕ) : Type 0 where
  -- its own demand cannot move its entitlement,
  pub unmoved : (d : ℕ) → entitlement (with_demand r c d) c ≡ entitlement r c
  -- which is a rate over a base that is not 0;
  pub proper : 0 < (entitlement r c).base
  -- at each demand the plan gives it the smaller of the two,
  pub given : (d : ℕ) → d ≤ 16_777_216 → SameRate (rate_of (plan_of (with_demand r c d)) c) (smaller d (entitlement r c))
  -- and so it does at the demand that the request has;
  pub own : SameRate (rate_of (plan_of r) c) (smaller (demand_of r c) (entitlement r c))
  -- and the entitlement is at least the floor
  pub floor : AtMost (floor_of r (input_of c) (output_of c)) (entitlement r c)
