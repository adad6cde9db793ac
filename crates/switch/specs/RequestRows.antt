-- Rows 4 to 7 of document 01's table 'Refusal numbers', for a request that is given as a value.
use Rattle.std.specs.Prelude.{ℕ, ◌+◌, Bool, cond, not, ◌&&◌, List, [], ◌∷◌, leb, ltb}
use Rattle.switch.specs.Cells.{input, output, input_used, output_used, used_cell, input_capacity, output_capacity, demand_of}
use Rattle.switch.specs.Rows.{Row, joined, verdict_of}
use Rattle.switch.specs.declared.port.Input.{Input}
use Rattle.switch.specs.declared.port.Output.{Output}
use Rattle.switch.specs.declared.request.Request.{Request}
use Rattle.switch.specs.declared.verdict.Cause.TheVariants.{Ports, Capacity, Demand, NotZero}
use Rattle.switch.specs.declared.verdict.Verdict.{Verdict}

-- Row 4: each of m, in word 1, and n, in word 2, has to be from 1 to 8.
abbrev pub outside : ℕ → Bool
outside k = not (leb 1 k && leb k 8)

abbrev pub ports_row : Request → Row
ports_row r = record { cause = Ports; size = 2; offends = λ i. cond (ltb i 1) (outside r.m) (outside r.n); place = λ i. 1 + i }

-- A number is above a limit that it has only where a test holds: used ports and cells have the table's limits, and for
-- unused ones the limit is 0.
abbrev pub above : Bool → ℕ → ℕ → Bool
above limited most x = limited && ltb most x

-- Row 5: the capacities of used inputs, from word 3 on, and then those of used outputs, from word 11 on.
abbrev pub input_above : Request → Input → Bool
input_above r u = above (input_used r u) 16_777_216 (input_capacity r u)

abbrev pub output_above : Request → Output → Bool
output_above r v = above (output_used r v) 16_777_216 (output_capacity r v)

abbrev pub inputs_above : Request → Row
inputs_above r = record { cause = Capacity; size = 8; offends = λ i. input_above r (input i); place = λ i. 3 + i }

abbrev pub outputs_above : Request → Row
outputs_above r = record { cause = Capacity; size = 8; offends = λ i. output_above r (output i); place = λ i. 11 + i }

abbrev pub capacity_row : Request → Row
capacity_row r = joined (inputs_above r) (outputs_above r)

-- Row 6: the demands of used cells, from word 19 on.
abbrev pub demand_above : Request → ℕ → Bool
demand_above r c = above (used_cell r c) 16_777_216 (demand_of r c)

abbrev pub demand_row : Request → Row
demand_row r = record { cause = Demand; size = 64; offends = λ c. demand_above r c; place = λ c. 19 + c }

-- Row 7: what unused inputs, unused outputs and unused cells hold, in the same words as above. A request that is a
-- value has no spare words.
abbrev pub input_not_zero : Request → Input → Bool
input_not_zero r u = above (not (input_used r u)) 0 (input_capacity r u)

abbrev pub output_not_zero : Request → Output → Bool
output_not_zero r v = above (not (output_used r v)) 0 (output_capacity r v)

abbrev pub cell_not_zero : Request → ℕ → Bool
cell_not_zero r c = above (not (used_cell r c)) 0 (demand_of r c)

abbrev pub inputs_not_zero : Request → Row
inputs_not_zero r = record { cause = NotZero; size = 8; offends = λ i. input_not_zero r (input i); place = λ i. 3 + i }

abbrev pub outputs_not_zero : Request → Row
outputs_not_zero r = record { cause = NotZero; size = 8; offends = λ i. output_not_zero r (output i); place = λ i. 11 + i }

abbrev pub cells_not_zero : Request → Row
cells_not_zero r = record { cause = NotZero; size = 64; offends = λ c. cell_not_zero r c; place = λ c. 19 + c }

abbrev pub not_zero_row : Request → Row
not_zero_row r = joined (inputs_not_zero r) (joined (outputs_not_zero r) (cells_not_zero r))

-- The rows that a request alone meets, in the table's order, and the verdict they give.
abbrev pub request_rows : Request → List Row
request_rows r = ports_row r ∷ capacity_row r ∷ demand_row r ∷ not_zero_row r ∷ []

abbrev pub request_verdict : Request → Verdict
request_verdict r = verdict_of (request_rows r)
