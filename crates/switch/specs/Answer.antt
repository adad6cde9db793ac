-- What planning answers, for every request: the verdict of rows 4 to 7, and the plan or the empty plan. Document 01 says it in
-- 'What is built' and below its table 'Refusal numbers'.
use Rattle.std.specs.Prelude.{ℕ, ◌≡◌}
use Rattle.switch.specs.Fault.{Fault}
use Rattle.switch.specs.Given.{Gives}
use Rattle.switch.specs.Planned.{Right, plan_of}
use Rattle.switch.specs.RequestRows.{request_verdict}
use Rattle.switch.specs.Rows.{if_accepted}
use Rattle.switch.specs.Values.{empty_plan}
use Rattle.switch.specs.Within.{Within}
use Rattle.switch.specs.declared.plan.Planned.{Planned}
use Rattle.switch.specs.declared.request.Request.{Request}
use Rattle.switch.specs.declared.verdict.Verdict.TheVariants.{Accepted}

-- The answer, as an equation: it is settled by the request.
abbrev pub planned : Request → Planned
planned r = record { verdict = request_verdict r; plan = if_accepted (request_verdict r) (plan_of r) empty_plan }

-- The same in document 01's words.
pub record Promised (r : Request) (answer : Planned) : Type 0 where
  -- a request within the limits is not refused, and the plan is fair, over the least base, with the reasons defined
  pub within : Within r → (answer.verdict ≡ Accepted) × Right r answer.plan
  -- and no other request is accepted
  pub accepted : answer.verdict ≡ Accepted → Within r
  -- a refusal names by number and place a fault that the request has, and hands back the empty plan
  pub refused : (k p : ℕ) → Gives answer.verdict k p → Fault r k p × (answer.plan ≡ empty_plan)
