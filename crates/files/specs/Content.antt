-- What the check of a plan file asks after its frame.
use Rattle.std.specs.Prelude.{ℕ, List, [], ◌∷◌}
use Rattle.switch.specs.RequestRows.{request_verdict}
use Rattle.switch.specs.Rows.{joined, row_verdict, or_else, verdict_of}
use Rattle.switch.specs.declared.plan.Plan.{Plan}
use Rattle.switch.specs.declared.request.Request.{Request}
use Rattle.switch.specs.declared.verdict.Verdict.{Verdict}
use Rattle.judging.specs.PlanRows.{half_not_zero, base_row}
use Rattle.worked.specs.Worked.{rates_worked}
use Rattle.formats.specs.FileRows.{spare_row}
use Rattle.formats.specs.PlanFile.{base_in, base_differs_row}

-- Rows 4 to 15, of a file's blocks and of the request and the plan that were read there.
abbrev pub content : List ℕ → Request → Plan → Verdict
content file r p =
    or_else (request_verdict r)
    (or_else (row_verdict (joined (spare_row 0 83 44 file) (joined (half_not_zero r p 0) (joined (spare_row 1 75 52 file)
    (joined (half_not_zero r p 1) (spare_row 2 75 52 file))))))
    (or_else (verdict_of (base_row (base_in file 0) ∷ base_differs_row file ∷ [])) (rates_worked r p)))
