-- The reasons of a plan's cells, from what is known of each input.
use Rattle.std.specs.Prelude.{ℕ, ◌*◌, Bool, cond, ◌&&◌, List, eqb, leb, ltb, get_or}
use Rattle.laws.specs.Lists.{list}
use Rattle.switch.specs.Cells.{input_of}
use Rattle.switch.specs.Tables.{used_at}
use Rattle.worked.specs.Saturated.{capped}
use Rattle.worked.specs.Port.{input_port}
use Rattle.worked.specs.declared.port.Port.{Port}

-- The port holds back a flow of numerator x over base b: the flow is below its demand d, the port's flows add up to its
-- capacity, and no flow through the port is larger.
abbrev pub holds : Port → ℕ → ℕ → ℕ → ℕ → Bool
holds port capacity d b x =
    ltb x (capped (d * b)) && eqb port.sum (capped (capacity * b)) && leb port.most x

-- 0 for a flow that has its demand, else 1 if its input holds it back, and else 2.
abbrev pub reason_from : Port → ℕ → ℕ → ℕ → ℕ → ℕ
reason_from input capacity d b x = cond (eqb x (capped (d * b))) 0 (cond (holds input capacity d b x) 1 2)

-- The reason of a used cell whose input is known.
abbrev pub reason_in : Port → ℕ → List ℕ → ℕ → List ℕ → ℕ → ℕ
reason_in input capacity demands b xs c = reason_from input capacity (get_or demands c 0) b (get_or xs c 0)

-- The reason of a cell, in a switch of m inputs and n outputs; a cell that is not used has reason 0.
abbrev pub reason_at : ℕ → ℕ → List ℕ → List ℕ → ℕ → List ℕ → ℕ → ℕ
reason_at m n inputs demands b xs c =
    cond (used_at m n c) (reason_in (input_port n xs (input_of c)) (get_or inputs (input_of c).0 0) demands b xs c) 0

-- The reasons of all cells.
abbrev pub reasons_at : ℕ → ℕ → List ℕ → List ℕ → ℕ → List ℕ → List ℕ
reasons_at m n inputs demands b xs = list 64 (reason_at m n inputs demands b xs)
