-- Every verdict on a file has a place below 384, the number of words of a plan file, so that it fits beside the refusal's number.
use Prim.Native.Nat.{ℕ, ◌≤◌}
use mathlib.Core.List.{List}
use native.Mathlib.Nat.{lt_of_le_of_lt}
use native.Mathlib.Omega.{arith}
use Rattle.switch.specs.Numbering.{number_of}
use Rattle.switch.specs.Rows.{Row, verdict_of}
use Rattle.switch.specs.declared.request.Request.{Request}
use Rattle.switch.specs.declared.verdict.Cause.{Cause}
use Rattle.switch.proofs.First.{given_between}
use Rattle.switch.proofs.Rising.{Rising}
use Rattle.switch.proofs.Rows.{Each, each_nil}
use Rattle.formats.specs.PlanFile.{plan_file_rows, check_verdict}
use Rattle.formats.specs.RequestFile.{request_file_rows, read_verdict}
use Rattle.formats.specs.Writing.{write_rows, write_verdict}
use Rattle.formats.proofs.Noticed.{read_rising, room_rising, write_rising}
use Rattle.formats.proofs.PlanNoticed.{check_rising}
use Rattle.codes.specs.Code.{Placed, plan_rows, plan_verdict}

-- No row's number is 0, and none is above 16.
pub number_in_table : (x : Cause) → (1 ≤ number_of x) × (number_of x ≤ 16)
number_in_table Cause.Length = (omega arith, omega arith)
number_in_table Cause.Check = (omega arith, omega arith)
number_in_table Cause.Kind = (omega arith, omega arith)
number_in_table Cause.Ports = (omega arith, omega arith)
number_in_table Cause.Capacity = (omega arith, omega arith)
number_in_table Cause.Demand = (omega arith, omega arith)
number_in_table Cause.NotZero = (omega arith, omega arith)
number_in_table Cause.Base = (omega arith, omega arith)
number_in_table Cause.BaseDiffers = (omega arith, omega arith)
number_in_table Cause.ReasonRange = (omega arith, omega arith)
number_in_table Cause.AboveDemand = (omega arith, omega arith)
number_in_table Cause.InputOver = (omega arith, omega arith)
number_in_table Cause.OutputOver = (omega arith, omega arith)
number_in_table Cause.NoBottleneck = (omega arith, omega arith)
number_in_table Cause.WrongReason = (omega arith, omega arith)
number_in_table Cause.Room = (omega arith, omega arith)

placed : (rows : List Row) → Each (Rising 0 383) rows → Placed (verdict_of rows)
placed rows rising k p g = lt_of_le_of_lt (given_between rows rising k p g).1 (omega arith)

pub read_placed : (file : List ℕ) → Placed (read_verdict file)
read_placed file = placed (request_file_rows file) (read_rising file (each_nil _))

pub check_placed : (file : List ℕ) → Placed (check_verdict file)
check_placed file = placed (plan_file_rows file) (check_rising file)

pub write_placed : (size : ℕ) (r : Request) (buffer : List ℕ) → Placed (write_verdict size r buffer)
write_placed size r buffer = placed (write_rows size r buffer) (write_rising size r buffer)

pub plan_placed : (file buffer : List ℕ) → Placed (plan_verdict file buffer)
plan_placed file buffer = placed (plan_rows file buffer) (read_rising file (room_rising 1536 buffer))
