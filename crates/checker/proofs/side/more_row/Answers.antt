-- The search finds the row's first offender.
use Rattle.std.proofs.Common.{refl, ◌∙◌, arith}
use Rattle.worked.specs.Worked.{more_row}
use Rattle.checker.proofs.Searches.{found_row, pairs_find}
use Rattle.checker.proofs.side.more_row.Goals as goal

pub returns : goal.returns
returns g c =
    let a = c.args in
    c.refused_if.ensures
    ∙ found_row (more_row a.cause g.row.N a.most.now a.table.now) _ (λ k. refl)
    (pairs_find g.row.N a.table.now a.most.now c.more.result (omega arith) (omega arith) c.more.ensures)
