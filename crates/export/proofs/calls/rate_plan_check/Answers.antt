-- `rate_plan_check` meets its contract: every place in a plan file fits.
use Rattle.std.proofs.Common.{sym, subst}
use Rattle.codes.specs.Code.{Placed}
use Rattle.codes.proofs.Places.{check_placed}
use Rattle.export.proofs.calls.rate_plan_check.Goals as goal

pub code-requires : goal.code-requires
code-requires c = subst Placed (sym c.check.ensures) (check_placed c.args.plan.now)
