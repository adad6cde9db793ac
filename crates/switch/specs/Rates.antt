-- Rates for the flows of a switch, and what they add up to at a port.
use Rattle.std.specs.Prelude.{ℕ, zero, suc, ◌+◌, get_or}
use Rattle.switch.specs.Cells.{cell_of, input, output}
use Rattle.switch.specs.declared.plan.Plan.{Plan}
use Rattle.switch.specs.declared.port.Input.{Input}
use Rattle.switch.specs.declared.port.Output.{Output}
use Rattle.switch.specs.declared.request.Request.{Request}

-- One rate for each cell, as a numerator over a base that all of them share ('Numbers', its last sentence).
pub record Rates : Type 0 where
  pub base : ℕ
  pub numerator : ℕ → ℕ

-- The numerator of the flow from input u to output v.
abbrev pub flow : Rates → Input → Output → ℕ
flow a u v = a.numerator (cell_of u v)

-- The rates of a plan.
abbrev pub rates_of : Plan → Rates
rates_of p = record { base = p.base; numerator = λ c. get_or p.numerators c 0 }

-- f 0 + f 1 + .. , n numbers.
unfoldable pub sum_to : ℕ → (ℕ → ℕ) → ℕ
sum_to zero f = 0
sum_to (suc n) f = sum_to n f + f n

-- What the rates of an input add up to: one flow to each output that is used.
abbrev pub input_total : Request → Rates → Input → ℕ
input_total r a u = sum_to r.n (λ k. flow a u (output k))

-- What the rates of an output add up to: one flow from each input that is used.
abbrev pub output_total : Request → Rates → Output → ℕ
output_total r a v = sum_to r.m (λ k. flow a (input k) v)
