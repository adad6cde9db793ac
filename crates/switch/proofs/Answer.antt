-- The planner's answer is what document 01 says of it.
use Prim.Native.Nat.{ℕ}
use mathlib.Core.Path.{◌≡◌, refl, sym, ap, subst}
use Rattle.switch.specs.Answer.{planned, Promised}
use Rattle.switch.specs.Given.{Gives}
use Rattle.switch.specs.Planned.{Right, plan_of}
use Rattle.switch.specs.RequestRows.{request_verdict}
use Rattle.switch.specs.Rows.{if_accepted}
use Rattle.switch.specs.Values.{empty_plan}
use Rattle.switch.specs.Within.{Within}
use Rattle.switch.specs.declared.plan.Plan.{Plan}
use Rattle.switch.specs.declared.request.Request.{Request}
use Rattle.switch.specs.declared.verdict.Verdict.{Verdict}
use Rattle.switch.specs.declared.verdict.Verdict.TheVariants.{Accepted, Refused}
use Rattle.switch.proofs.Fault.{request_fault}
use Rattle.switch.proofs.Planned.{right_plan_of}
use Rattle.switch.proofs.Within.{accepted_of_within, within_of_accepted}

-- To a request within the limits it is the plan.
pub plan_within : (r : Request) → Within r → (planned r).plan ≡ plan_of r
plan_within r w = ap (λ (v : Verdict). if_accepted v (plan_of r) empty_plan) (accepted_of_within r w)

empty_if_refused : (v : Verdict) (p : Plan) (k q : ℕ) → Gives v k q → if_accepted v p empty_plan ≡ empty_plan
empty_if_refused Accepted p k q given = absurd given
empty_if_refused (Refused x) p k q given = refl

pub planned_as_promised : (r : Request) → Promised r (planned r)
planned_as_promised r =
    record {
      within = λ w.
          let accepted = accepted_of_within r w in
          (accepted, subst (λ (v : Verdict). Right r (if_accepted v (plan_of r) empty_plan)) (sym accepted) (right_plan_of r w));
      accepted = within_of_accepted r;
      refused = λ k q given. (request_fault r k q given, empty_if_refused (request_verdict r) (plan_of r) k q given);
    }
