-- `plan` meets its contract.
use Rattle.std.proofs.Common.{◌≡◌, sym, ◌∙◌, subst, rules}
use Rattle.switch.specs.Answer.{planned, Promised}
use Rattle.switch.proofs.Within.{within_of_accepted}
use Rattle.switch.proofs.Answer.{planned_as_promised}
use Rattle.switch.specs.declared.request.Request.{Request}
use Rattle.switch.specs.declared.plan.Planned.{Planned}
use Rattle.planner.proofs.plan.plan.Goals as goal

-- Once the answer is what is planned, it is what was promised.
promised : (r : Request) (answer : Planned) → answer ≡ planned r → Promised r answer
promised r answer e = subst (Promised r) (sym e) (planned_as_promised r)

pub worked_out-requires : goal.worked_out-requires
worked_out-requires c = within_of_accepted _ (sym c.check-verdict.ensures ∙ c.in-Accepted.is)

pub returns-in-Accepted-clause-promised : goal.returns-in-Accepted-clause-promised
returns-in-Accepted-clause-promised c = promised _ _ (search rules)

pub returns-in-Refused-clause-promised : goal.returns-in-Refused-clause-promised
returns-in-Refused-clause-promised c = promised _ _ (search rules)
