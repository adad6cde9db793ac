-- The third demand: all of a request is fixed but one flow's demand. That flow has an entitlement which its own demand cannot move;
-- at each demand the plan gives it the smaller of the two; and the entitlement has a floor in the capacities of its two ports.
use Rattle.std.specs.Prelude.{ℕ, ◌≤◌, ◌<◌, ◌≡◌, true}
use Rattle.switch.specs.Cells.{input_of, output_of, used_cell, demand_of}
use Rattle.switch.specs.Entitlement.{with_demand, rate_of, entitlement, smaller, floor_of, SameRate, AtMost}
use Rattle.switch.specs.Within.{Within, Shaped}
use Rattle.switch.specs.declared.request.Request.{Request}
use Rattle.switch.specs.declared.verdict.Verdict.TheVariants.{Accepted}
use Rattle.switch.specs.Answer.{planned}

-- What is said of the flow of a cell, once the request is fixed; the demands d come after both.
pub record OneFlow (r : Request) (c : ℕ) : Type 0 where
  -- the entitlement is the rate in the planner's answer to the largest demand that a flow can have,
  pub entitled : entitlement r c ≡ rate_of (planned (with_demand r c 16_777_216)).plan c
  -- a rate over a base that is not 0,
  pub proper : 0 < (entitlement r c).base
  -- and the flow's own demand cannot move it
  pub unmoved : (d : ℕ) → entitlement (with_demand r c d) c ≡ entitlement r c
  -- at each demand the request is accepted, and the plan gives the flow the smaller of the two
  pub given : (d : ℕ) → d ≤ 16_777_216
      → ((planned (with_demand r c d)).verdict ≡ Accepted)
      × SameRate (rate_of (planned (with_demand r c d)).plan c) (smaller d (entitlement r c))
  -- so at the demand that it has, too
  pub own : SameRate (rate_of (planned r).plan c) (smaller (demand_of r c) (entitlement r c))
  -- the entitlement is at least the smaller of its input's capacity / outputs and its output's capacity / inputs
  pub floor : AtMost (floor_of r (input_of c) (output_of c)) (entitlement r c)

pub record Demand3 : Type 0 where
  -- for each request within the limits and each used cell, and after these for each demand; `Shaped` is said by a request's type
  pub each_flow : (r : Request) → Within r → Shaped r → (c : ℕ) → used_cell r c ≡ true → OneFlow r c
