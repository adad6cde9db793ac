-- `rate_plan_write` meets its contract: once the file is accepted, writing answers for the rest.
use Rattle.std.proofs.Common.{◌≡◌, ℕ, List, sym, ◌∙◌, ap, subst}
use Rattle.switch.specs.declared.request.Request.{Request}
use Rattle.switch.specs.declared.verdict.Verdict.TheVariants.{Accepted}
use Rattle.formats.specs.PlanFile.{plan_written}
use Rattle.formats.specs.RequestFile.{request_in, read_verdict, request_read}
use Rattle.formats.specs.Writing.{write_verdict}
use Rattle.formats.specs.declared.request.RequestRead.{RequestRead}
use Rattle.formats.proofs.RequestFile.{read_accepted}
use Rattle.codes.specs.Code.{code_of, Placed}
use Rattle.codes.proofs.Places.{read_placed, write_placed}
use Rattle.codes.proofs.PlanLaid.{verdict_of_read, laid_of_read, verdict_of_refused, laid_of_refused}
use Rattle.export.proofs.calls.rate_plan_write.Goals as goal

module _ (file : List ℕ) (read : RequestRead) (is_read : read ≡ request_read file) where
  verdict : read.verdict ≡ read_verdict file
  verdict = ap (λ (x : RequestRead). x.verdict) is_read

  module _ (told : read.verdict ≡ Accepted) where
    accepted : read_verdict file ≡ Accepted
    accepted = sym verdict ∙ told

    request : read.request ≡ request_in file
    request = ap (λ (x : RequestRead). x.request) (is_read ∙ read_accepted _ accepted)

pub code-requires : goal.code-requires
code-requires c =
    subst Placed (sym c.write_plan.ensures.value) (write_placed 1536 c.read_request-read.result.request c.args.plan.now)

pub returns-in-Accepted-clause-value : goal.returns-in-Accepted-clause-value
returns-in-Accepted-clause-value c =
    let file = c.args.request.now in
    let buffer = c.args.plan.now in
    let read = c.read_request-read in
    c.code.ensures
    ∙ ap code_of (c.write_plan.ensures.value
    ∙ ap (λ (r : Request). write_verdict 1536 r buffer) (request file read.result read.ensures c.in-Accepted.is)
    ∙ sym (verdict_of_read file buffer (accepted file read.result read.ensures c.in-Accepted.is)))

pub returns-in-Accepted-clause-plan_after : goal.returns-in-Accepted-clause-plan_after
returns-in-Accepted-clause-plan_after c =
    let file = c.args.request.now in
    let buffer = c.args.plan.now in
    let read = c.read_request-read in
    c.write_plan.ensures.buffer_after
    ∙ ap (λ (r : Request). plan_written r buffer) (request file read.result read.ensures c.in-Accepted.is)
    ∙ sym (laid_of_read file buffer (accepted file read.result read.ensures c.in-Accepted.is))

pub code-requires-in-Refused : goal.code-requires-in-Refused
code-requires-in-Refused c =
    let read = c.read_request-read in
    subst Placed (sym (verdict c.args.request.now read.result read.ensures)) (read_placed c.args.request.now)

pub returns-in-Refused-clause-value : goal.returns-in-Refused-clause-value
returns-in-Refused-clause-value c =
    let file = c.args.request.now in
    let read = c.read_request-read in
    let refused = sym (verdict file read.result read.ensures) ∙ c.in-Refused.is in
    c.code-in-Refused.ensures ∙ ap code_of (c.in-Refused.is ∙ sym (verdict_of_refused file c.args.plan.now _ refused))

pub returns-in-Refused-clause-plan_after : goal.returns-in-Refused-clause-plan_after
returns-in-Refused-clause-plan_after c =
    let file = c.args.request.now in
    let read = c.read_request-read in
    let refused = sym (verdict file read.result read.ensures) ∙ c.in-Refused.is in
    sym (laid_of_refused file c.args.plan.now _ refused)
