-- One more limit is one more step of the search.
use Rattle.std.proofs.Common.{◌∙◌, refl}
use Rattle.fairness.specs.Filling.{lowest}
use Rattle.fairness.proofs.Lowest.{lowest_next}
use Rattle.planner.proofs.tables.Tables.lowest_limit.Goals as goal

pub loop-limit-init : goal.loop-limit-init
unfolding lowest
loop-limit-init c = record { end = c.limits-limit-end.ensures; found = c.never-best.ensures }

pub loop-limit-preserved : goal.loop-limit-preserved
loop-limit-preserved c =
    record {
      end = c.loop-limit.invariant.end;
      found = c.lower-best.ensures ∙ lowest_next _ _ _ _ _ c.loop-limit.invariant.found refl;
    }
