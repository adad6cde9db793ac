-- What is wrong where, of a request with a plan: rows 4 to 8 and 10 to 15 of document 01's table 'Refusal numbers', said without
-- any search. A refusal's number and place have to name such a fault.
use Rattle.std.specs.Prelude.{ℕ, ◌*◌, ◌≤◌, ◌<◌, ◌⊎◌, ◌≡◌}
use Rattle.switch.specs.Cells.{cell_of, input_capacity, output_capacity, demand_of}
use Rattle.switch.specs.Fairness.{Used, InputBottleneck, OutputBottleneck}
use Rattle.switch.specs.Fault.{Fault}
use Rattle.switch.specs.Rates.{flow, rates_of, input_total, output_total}
use Rattle.switch.specs.Reason.{flow_reason}
use Rattle.switch.specs.declared.plan.Plan.{Plan}
use Rattle.switch.specs.declared.port.Input.{Input}
use Rattle.switch.specs.declared.port.Output.{Output}
use Rattle.switch.specs.declared.request.Request.{Request}
use Rattle.judging.specs.PlanWithin.{said_reason}
use Rattle.judging.specs.Places.{low_word, high_word, reason_word, low_of, high_of}

-- Past the ports of the switch: an unused cell.
abbrev pub Unused : Request → Input → Output → Type 0
Unused r u v = (u.0 < 8) × (v.0 < 8) × ((r.m ≤ u.0) ⊎ (r.n ≤ v.0))

-- Number k at place q. Rows 4 to 8 name the word of the plan's file, and the others a cell, an input or an output.
pub data PlanFault (r : Request) (p : Plan) : ℕ → ℕ → Type 0 where
  of_request : {k q : ℕ} → Fault r k q → PlanFault r p k q
  low_rate : (u : Input) (v : Output) → Unused r u v → 0 < low_of (flow (rates_of p) u v) → PlanFault r p 7 (low_word (cell_of u v))
  high_rate : (u : Input) (v : Output) → Unused r u v → 0 < high_of (flow (rates_of p) u v) → PlanFault r p 7 (high_word (cell_of u v))
  unused_reason : (u : Input) (v : Output) → Unused r u v → 0 < said_reason p (cell_of u v) → PlanFault r p 7 (reason_word (cell_of u v))
  base : (p.base < 1) ⊎ (4_294_967_296 < p.base) → PlanFault r p 8 129
  reason_range : (u : Input) (v : Output) → Used r u v → 2 < said_reason p (cell_of u v) → PlanFault r p 10 (cell_of u v)
  above_demand_fault : (u : Input) (v : Output) → Used r u v → demand_of r (cell_of u v) * p.base < flow (rates_of p) u v
      → PlanFault r p 11 (cell_of u v)
  input_over_fault : (u : Input) → u.0 < r.m → input_capacity r u * p.base < input_total r (rates_of p) u → PlanFault r p 12 u.0
  output_over_fault : (v : Output) → v.0 < r.n → output_capacity r v * p.base < output_total r (rates_of p) v → PlanFault r p 13 v.0
  no_bottleneck : (u : Input) (v : Output) → Used r u v → flow (rates_of p) u v < demand_of r (cell_of u v) * p.base
      → (InputBottleneck r (rates_of p) u v → ⊥) → (OutputBottleneck r (rates_of p) u v → ⊥) → PlanFault r p 14 (cell_of u v)
  wrong_reason_fault : (u : Input) (v : Output) → Used r u v → (said_reason p (cell_of u v) ≡ flow_reason r (rates_of p) u v → ⊥)
      → PlanFault r p 15 (cell_of u v)
