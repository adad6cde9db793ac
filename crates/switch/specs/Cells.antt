-- Inputs, outputs and cells, and what a request says of each: the text below document 01's table 'Numbers'.
use Rattle.std.specs.Prelude.{ℕ, ◌+◌, ◌*◌, ◌/◌, ◌%◌, min, Bool, ◌&&◌, ltb, get_or}
use Rattle.switch.specs.declared.port.Input.{Input}
use Rattle.switch.specs.declared.port.Output.{Output}
use Rattle.switch.specs.declared.request.Request.{Request}

-- Inputs and outputs are two types, which that text asks for; a bare number becomes one of them here and nowhere else.
abbrev pub input : ℕ → Input
input k = record { 0 = k }

abbrev pub output : ℕ → Output
output k = record { 0 = k }

-- The number of the flow between two ports: eight cells to an input.
abbrev pub cell_of : Input → Output → ℕ
cell_of u v = 8 * u.0 + v.0

-- The two ports of a cell. A number above 63 has to be an unused cell, so its input is 8, which no switch has.
abbrev pub input_of : ℕ → Input
input_of c = input (min (c / 8) 8)

abbrev pub output_of : ℕ → Output
output_of c = output (c % 8)

-- Ports limit what a switch can carry. As limits they are numbered together, the inputs first.
abbrev pub input_limit : Input → ℕ
input_limit u = u.0

abbrev pub output_limit : Output → ℕ
output_limit v = 8 + v.0

-- A switch uses its first m inputs and its first n outputs.
abbrev pub input_used : Request → Input → Bool
input_used r u = ltb u.0 r.m

abbrev pub output_used : Request → Output → Bool
output_used r v = ltb v.0 r.n

-- A cell is used if both its ports are.
abbrev pub used : Request → Input → Output → Bool
used r u v = input_used r u && output_used r v

-- The same of any number that is taken for a cell's; none above 63 is used.
abbrev pub used_cell : Request → ℕ → Bool
used_cell r c = ltb c 64 && used r (input_of c) (output_of c)

-- A port's capacity and a cell's demand. Past the end of a table they are 0, which is what unused ports and cells hold.
abbrev pub input_capacity : Request → Input → ℕ
input_capacity r u = get_or r.inputs u.0 0

abbrev pub output_capacity : Request → Output → ℕ
output_capacity r v = get_or r.outputs v.0 0

abbrev pub demand_of : Request → ℕ → ℕ
demand_of r c = get_or r.demands c 0
