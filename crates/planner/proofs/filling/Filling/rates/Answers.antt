-- One more entry is marked with its rate, and at the end all are.
use Rattle.std.proofs.Common.{◌≡◌, arith}
use Rattle.planner.specs.Engine.{standing}
use Rattle.planner.proofs.Walks.{marked_next, marked_all}
use Rattle.planner.proofs.filling.Filling.rates.Goals as goal

pub loop-cell-preserved : goal.loop-cell-preserved
unfolding standing
loop-cell-preserved c =
    marked_next _ _ _ c.loop-cell.cell (omega arith) c.loop-cell.invariant _ c.rate.ensures

pub returns : goal.returns
returns c =
    let end : c.loop-cell.cell ≡ 64 = omega arith in marked_all _ _ _ (rw end at c.loop-cell.invariant)
