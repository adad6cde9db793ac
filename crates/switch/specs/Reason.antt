-- The reason of a cell, from the middle of document 01's section 'Fairness', by tests that compute.
use Rattle.std.specs.Prelude.{ℕ, zero, suc, ◌*◌, Bool, true, cond, ◌&&◌, eqb, leb, ltb}
use Rattle.switch.specs.Cells.{cell_of, input_of, output_of, input, output, used_cell, input_capacity, output_capacity, demand_of}
use Rattle.switch.specs.Rates.{Rates, flow, input_total, output_total}
use Rattle.switch.specs.declared.port.Input.{Input}
use Rattle.switch.specs.declared.port.Output.{Output}
use Rattle.switch.specs.declared.request.Request.{Request}

-- Every number below n passes the test.
unfoldable pub every : ℕ → (ℕ → Bool) → Bool
every zero test = true
every (suc n) test = test n && every n test

-- The flow has its demand; one that asks for nothing has it too.
abbrev pub at_demand : Request → Rates → Input → Output → Bool
at_demand r a u v = eqb (flow a u v) (demand_of r (cell_of u v) * a.base)

-- The input is a bottleneck of the flow: the three conditions of `InputBottleneck`, tested.
abbrev pub input_holds : Request → Rates → Input → Output → Bool
input_holds r a u v =
    ltb (flow a u v) (demand_of r (cell_of u v) * a.base)
    && eqb (input_total r a u) (input_capacity r u * a.base)
    && every r.n (λ k. leb (flow a u (output k)) (flow a u v))

-- The output is one: those of `OutputBottleneck`.
abbrev pub output_holds : Request → Rates → Input → Output → Bool
output_holds r a u v =
    ltb (flow a u v) (demand_of r (cell_of u v) * a.base)
    && eqb (output_total r a v) (output_capacity r v * a.base)
    && every r.m (λ k. leb (flow a (input k) v) (flow a u v))

-- 0 for a flow that has its demand, else 1 if its input holds it back, and else 2: then its output does.
abbrev pub flow_reason : Request → Rates → Input → Output → ℕ
flow_reason r a u v = cond (at_demand r a u v) 0 (cond (input_holds r a u v) 1 2)

-- A cell that is not used has reason 0.
abbrev pub reason_of : Request → Rates → ℕ → ℕ
reason_of r a c = cond (used_cell r c) (flow_reason r a (input_of c) (output_of c)) 0
