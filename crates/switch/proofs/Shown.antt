-- Everything that is to be shown of a request within the limits.
use Rattle.switch.specs.Shown.{Shown}
use Rattle.switch.specs.Within.{Within}
use Rattle.switch.specs.declared.request.Request.{Request}
use Rattle.switch.proofs.Fair.{fair_exactly_when_settled, one_is_fair, only_one_is_fair}
use Rattle.switch.proofs.Planned.{right_plan_of, right_is_plan_of, base_of_plan_of}

pub shown : (r : Request) → Within r → Shown r
shown r w =
    record {
      exactly = fair_exactly_when_settled r w;
      one = one_is_fair r w;
      only = only_one_is_fair r w;
      right = right_plan_of r w;
      alone = right_is_plan_of r w;
      base = base_of_plan_of r w;
    }
