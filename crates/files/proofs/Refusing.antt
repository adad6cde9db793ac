-- What a loop that searches a row's candidates gives back at an offender.
use Rattle.std.proofs.Common.{ℕ, ◌≡◌, ◌<◌, true, ◌∙◌, sym, ap}
use Rattle.switch.specs.Rows.{Row, refusal, row_verdict}
use Rattle.switch.specs.declared.verdict.Verdict.{Verdict}
use Rattle.switch.proofs.Search.{Passed, row_refuses}

pub refuses_there : {row : Row} {i place : ℕ} {v : Verdict} → v ≡ refusal row.cause place → place ≡ row.place i → Passed row i
    → i < row.size → row.offends i ≡ true → v ≡ row_verdict row
refuses_there {row} e same passed below here = e ∙ ap (refusal row.cause) same ∙ sym (row_refuses passed below here)
