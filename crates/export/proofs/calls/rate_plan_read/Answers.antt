-- `rate_plan_read` meets its contract: every place in a request file fits.
use Rattle.std.proofs.Common.{sym, ap, subst}
use Rattle.formats.specs.declared.request.RequestRead.{RequestRead}
use Rattle.codes.specs.Code.{Placed}
use Rattle.codes.proofs.Places.{read_placed}
use Rattle.export.proofs.calls.rate_plan_read.Goals as goal

pub code-requires : goal.code-requires
code-requires c =
    subst Placed (sym (ap (λ (x : RequestRead). x.verdict) c.read_request.ensures)) (read_placed c.args.request.now)
