-- A verdict as one number, for C; what the call answers that turns a request file into a plan file; and a choice as a number.
use Rattle.std.specs.Prelude.{ℕ, ◌+◌, ◌*◌, ◌<◌, List, [], ◌∷◌, ◌++◌, drop}
use Rattle.switch.specs.Given.{Gives}
use Rattle.switch.specs.Numbering.{number_of}
use Rattle.switch.specs.Planned.{plan_of}
use Rattle.switch.specs.Rows.{Row, verdict_of, if_accepted}
use Rattle.switch.specs.declared.verdict.Verdict.{Verdict}
use Rattle.switch.specs.declared.verdict.Verdict.TheVariants.{Accepted, Refused}
use Rattle.formats.specs.Chosen.{one_of}
use Rattle.formats.specs.FileRows.{room_row}
use Rattle.formats.specs.PlanFile.{plan_file}
use Rattle.formats.specs.RequestFile.{request_in, request_file_rows}

-- 0 if the verdict accepts, otherwise the refusal's number times 2^32 plus its place.
abbrev pub code_of : Verdict → ℕ
code_of Accepted = 0
code_of (Refused x) = number_of x.cause * 4_294_967_296 + x.place

-- The place fits beside the number.
abbrev pub Placed : Verdict → Type 0
Placed v = (k p : ℕ) → Gives v k p → p < 4_294_967_296

-- From a request file to a plan file: the rows that reading meets, and then the room.
abbrev pub plan_rows : List ℕ → List ℕ → List Row
plan_rows file buffer = request_file_rows file ++ (room_row 1536 buffer ∷ [])

abbrev pub plan_verdict : List ℕ → List ℕ → Verdict
plan_verdict file buffer = verdict_of (plan_rows file buffer)

-- The buffer afterwards: the plan file of the request that was read, and after it what was there; on a refusal, what was there.
abbrev pub plan_laid : List ℕ → List ℕ → List ℕ
plan_laid file buffer =
    if_accepted (plan_verdict file buffer) (plan_file (request_in file) (plan_of (request_in file)) ++ drop 1536 buffer) buffer

-- Which file is to be loaded: 1 is the proposed one, 2 the running one, 0 neither.
abbrev pub choice_of : List ℕ → List ℕ → ℕ
choice_of proposed running = one_of proposed running 1 2 0
