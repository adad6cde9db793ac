-- A request within the limits, from document 01's table 'Numbers' and the text below it, and not from the refusals.
use Rattle.std.specs.Prelude.{◌≤◌, ◌<◌, ◌⊎◌, ◌≡◌, length}
use Rattle.switch.specs.Cells.{cell_of, input_capacity, output_capacity, demand_of}
use Rattle.switch.specs.declared.port.Input.{Input}
use Rattle.switch.specs.declared.port.Output.{Output}
use Rattle.switch.specs.declared.request.Request.{Request}

pub record Within (r : Request) : Type 0 where
  -- the table's first line: how many inputs and outputs there can be
  pub inputs : (1 ≤ r.m) × (r.m ≤ 8)
  pub outputs : (1 ≤ r.n) × (r.n ≤ 8)
  -- its second line, for the ports that there are
  pub input_capacity_within : (u : Input) → u.0 < r.m → input_capacity r u ≤ 16_777_216
  pub output_capacity_within : (v : Output) → v.0 < r.n → output_capacity r v ≤ 16_777_216
  -- its third line, for the flows that there are
  pub demand : (u : Input) (v : Output) → u.0 < r.m → v.0 < r.n → demand_of r (cell_of u v) ≤ 16_777_216
  -- the text below it: what is not used holds 0
  pub unused_input : (u : Input) → r.m ≤ u.0 → u.0 < 8 → input_capacity r u ≡ 0
  pub unused_output : (v : Output) → r.n ≤ v.0 → v.0 < 8 → output_capacity r v ≡ 0
  pub unused_cell : (u : Input) (v : Output) → u.0 < 8 → v.0 < 8 → (r.m ≤ u.0) ⊎ (r.n ≤ v.0) → demand_of r (cell_of u v) ≡ 0

-- What the type of a request says of its tables. A list in the logic could be shorter or longer.
pub record Shaped (r : Request) : Type 0 where
  pub inputs : length r.inputs ≡ 8
  pub outputs : length r.outputs ≡ 8
  pub demands : length r.demands ≡ 64
