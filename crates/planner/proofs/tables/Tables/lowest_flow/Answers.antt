-- One more flow is one more step of the search.
use Rattle.std.proofs.Common.{◌∙◌, refl}
use Rattle.fairness.specs.Filling.{lowest}
use Rattle.fairness.proofs.Lowest.{lowest_next}
use Rattle.planner.proofs.tables.Tables.lowest_flow.Goals as goal

pub loop-cell-init : goal.loop-cell-init
unfolding lowest
loop-cell-init c = refl

pub loop-cell-preserved : goal.loop-cell-preserved
loop-cell-preserved c =
    c.lower-best.ensures ∙ lowest_next _ _ _ _ _ c.loop-cell.invariant (rw (c.waiting.ensures, c.from.ensures))
