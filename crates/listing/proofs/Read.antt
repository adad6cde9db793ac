-- What was read of a file, planned and listed, is the file's text, and so is the refusal of reading it.
use Rattle.std.proofs.Common.{◌≡◌, ℕ, List, sym, ◌∙◌, ap, ap₂}
use Rattle.switch.specs.Answer.{planned}
use Rattle.switch.specs.Planned.{plan_of}
use Rattle.switch.specs.Within.{Within}
use Rattle.switch.specs.declared.plan.Planned.{Planned}
use Rattle.switch.specs.declared.verdict.Refusal.{Refusal}
use Rattle.switch.specs.declared.verdict.Verdict.{Verdict}
use Rattle.switch.specs.declared.verdict.Verdict.TheVariants.{Accepted, Refused}
use Rattle.switch.proofs.Answer.{plan_within}
use Rattle.formats.specs.RequestFile.{request_in, read_verdict, request_read}
use Rattle.formats.specs.declared.request.RequestRead.{RequestRead}
use Rattle.formats.proofs.RequestFile.{read_accepted}
use Rattle.formats.proofs.Sound.{sound_of_accepted}
use Rattle.texts.specs.Listing.{plan_text, refused_text, text_of, listing_of}
use Rattle.texts.proofs.Fits.{text_fits}

module _ (file : List ℕ) (read : RequestRead) (is_read : read ≡ request_read file) where
  verdict : read.verdict ≡ read_verdict file
  verdict = ap (λ (x : RequestRead). x.verdict) is_read

  pub refusal_listed : (x : Refusal) → read.verdict ≡ Refused x → refused_text x ≡ listing_of file
  refusal_listed x e = ap (λ (v : Verdict). text_of v (request_in file)) (sym e ∙ verdict)

  -- An accepted file has a request within the limits, which is what was read, and its plan is what was planned.
  module _ (told : read.verdict ≡ Accepted) where
    accepted : read_verdict file ≡ Accepted
    accepted = sym verdict ∙ told

    request : read.request ≡ request_in file
    request = ap (λ (x : RequestRead). x.request) (is_read ∙ read_accepted _ accepted)

    pub within_limits : Within read.request
    within_limits = rw request (sound_of_accepted file accepted).within

    pub plan_listed : (answer : Planned) → answer ≡ planned read.request
        → plan_text read.request answer.plan ≡ listing_of file
    plan_listed answer is_planned =
        let plan = ap (λ (x : Planned). x.plan) is_planned ∙ plan_within read.request within_limits ∙ ap plan_of request in
        ap₂ plan_text request plan ∙ sym (ap (λ (v : Verdict). text_of v (request_in file)) accepted)

pub ruleset read = (refusal_listed, within_limits, plan_listed, text_fits)
