-- Writing a file into a buffer, whatever the file holds: what the text below document 01's table 'Refusal numbers' says of
-- the writers.
use Rattle.std.specs.Prelude.{ℕ, List, [], ◌∷◌, ◌++◌, drop}
use Rattle.switch.specs.RequestRows.{request_rows}
use Rattle.switch.specs.Rows.{Row, verdict_of, if_accepted}
use Rattle.switch.specs.declared.request.Request.{Request}
use Rattle.switch.specs.declared.verdict.Verdict.{Verdict}
use Rattle.formats.specs.FileRows.{room_row}

-- The rows that writing meets: the request's own, and then the room for so many bytes.
abbrev pub write_rows : ℕ → Request → List ℕ → List Row
write_rows size r buffer = request_rows r ++ (room_row size buffer ∷ [])

abbrev pub write_verdict : ℕ → Request → List ℕ → Verdict
write_verdict size r buffer = verdict_of (write_rows size r buffer)

-- The buffer afterwards: the file and after it what was there; on a refusal, what was there.
abbrev pub written : ℕ → List ℕ → Request → List ℕ → List ℕ
written size file r buffer = if_accepted (write_verdict size r buffer) (file ++ drop size buffer) buffer
