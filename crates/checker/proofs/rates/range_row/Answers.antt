-- The search finds the row's first offender.
use Rattle.std.proofs.Common.{ltb, refl, ◌∙◌, arith}
use Rattle.checker.proofs.Searches.{found_row, position_finds_in}
use Rattle.worked.specs.Worked.{range_worked}
use Rattle.checker.proofs.rates.range_row.Goals as goal

pub returns : goal.returns
returns c =
    let reasons = c.args.reasons.now in
    c.refused_if.ensures
    ∙ found_row (range_worked reasons) c.beyond.result (λ k. refl)
    (position_finds_in 64 (ltb 2) reasons 0 c.beyond.result (omega arith) c.beyond.ensures)
