-- What a test for a bottleneck needs to know of a port: what its flows add up to, and the largest of them.
use Rattle.std.specs.Prelude.{ℕ, zero, suc, max, List, get_or}
use Rattle.switch.specs.Cells.{input, output, cell_of}
use Rattle.switch.specs.Rates.{sum_to}
use Rattle.switch.specs.declared.port.Input.{Input}
use Rattle.switch.specs.declared.port.Output.{Output}
use Rattle.worked.specs.Saturated.{capped, ports}
use Rattle.worked.specs.declared.port.Port.{Port}

-- The largest of f 0, f 1, .. , n numbers; of none it is 0.
unfoldable pub most_to : ℕ → (ℕ → ℕ) → ℕ
most_to zero f = 0
most_to (suc n) f = max (most_to n f) (f n)

-- A port of which no flow is known.
abbrev pub no_port : Port
no_port = record { sum = 0; most = 0 }

-- A port with n flows, of numerators f 0, f 1, ..: what they add up to, and the largest of them.
abbrev pub port_of : ℕ → (ℕ → ℕ) → Port
port_of n f = record { sum = capped (sum_to (ports n) f); most = most_to (ports n) f }

-- An input has a flow to each of n outputs.
abbrev pub input_port : ℕ → List ℕ → Input → Port
input_port n xs u = port_of n (λ k. get_or xs (cell_of u (output k)) 0)

-- An output has a flow from each of m inputs.
abbrev pub output_port : ℕ → List ℕ → Output → Port
output_port m xs v = port_of m (λ k. get_or xs (cell_of (input k) v) 0)
