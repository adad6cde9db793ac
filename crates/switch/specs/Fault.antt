-- What is wrong where: rows 4 to 7 of document 01's table 'Refusal numbers', said of a request's numbers without any search.
-- A refusal's number and place have to name such a fault.
use Rattle.std.specs.Prelude.{ℕ, ◌+◌, ◌≤◌, ◌<◌, ◌⊎◌}
use Rattle.switch.specs.Cells.{cell_of, input_capacity, output_capacity, demand_of}
use Rattle.switch.specs.declared.port.Input.{Input}
use Rattle.switch.specs.declared.port.Output.{Output}
use Rattle.switch.specs.declared.request.Request.{Request}

-- Number k at place p, which is the word that would hold the number in the request's file.
pub data Fault (r : Request) : ℕ → ℕ → Type 0 where
  inputs : (r.m < 1) ⊎ (8 < r.m) → Fault r 4 1
  outputs : (r.n < 1) ⊎ (8 < r.n) → Fault r 4 2
  input_above_fault : (u : Input) → u.0 < 8 → u.0 < r.m → 16_777_216 < input_capacity r u → Fault r 5 (3 + u.0)
  output_above_fault : (v : Output) → v.0 < 8 → v.0 < r.n → 16_777_216 < output_capacity r v → Fault r 5 (11 + v.0)
  demand_above_fault : (u : Input) (v : Output) → u.0 < 8 → v.0 < 8 → u.0 < r.m → v.0 < r.n
      → 16_777_216 < demand_of r (cell_of u v) → Fault r 6 (19 + cell_of u v)
  unused_input : (u : Input) → u.0 < 8 → r.m ≤ u.0 → 0 < input_capacity r u → Fault r 7 (3 + u.0)
  unused_output : (v : Output) → v.0 < 8 → r.n ≤ v.0 → 0 < output_capacity r v → Fault r 7 (11 + v.0)
  unused_cell : (u : Input) (v : Output) → u.0 < 8 → v.0 < 8 → (r.m ≤ u.0) ⊎ (r.n ≤ v.0)
      → 0 < demand_of r (cell_of u v) → Fault r 7 (19 + cell_of u v)
