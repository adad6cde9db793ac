-- The cell that was found is the row's first offender.
use Rattle.std.proofs.Common.{refl, ◌∙◌}
use Rattle.checker.proofs.Searches.{found_row}
use Rattle.checker.specs.Flows.{row_of_free}
use Rattle.checker.proofs.rates.Flows.free_row.Goals as goal

pub returns : goal.returns
returns c =
    c.refused_if.ensures
    ∙ found_row (row_of_free c.args.self.now) c.free_cell.result (λ k. refl) c.free_cell.ensures
