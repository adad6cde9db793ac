-- The second demand is met.
use Prim.Native.Nat.{ℕ, ◌≤◌, ◌<◌}
use mathlib.Core.List.{List}
use mathlib.Core.Logic.{◌⊎◌, ◌↔◌, inl, inr}
use mathlib.Core.Path.{◌≡◌, sym, ap, subst, ◌∙◌}
use lib.ListN.{get_or, length, take}
use Rattle.laws.proofs.Search.{le_or_lt}
use Rattle.switch.specs.Fairness.{Fair, SameRates}
use Rattle.switch.specs.Planned.{Right}
use Rattle.switch.specs.Rates.{rates_of}
use Rattle.switch.specs.Reason.{reason_of}
use Rattle.switch.specs.Within.{Within, Shaped}
use Rattle.switch.specs.declared.plan.Plan.{Plan}
use Rattle.switch.specs.declared.request.Request.{Request}
use Rattle.switch.specs.declared.verdict.Verdict.TheVariants.{Accepted}
use Rattle.switch.proofs.Fair.{fair_exactly_when_settled}
use Rattle.switch.proofs.Planned.{right_unique, beyond_the_cells}
use Rattle.switch.proofs.SameRates.{fair_exactly_planned}
use Rattle.switch.specs.Answer.{planned}
use Rattle.switch.proofs.Answer.{planned_as_promised}
use Rattle.judging.proofs.Shown.{judging_shown}
use Rattle.formats.specs.PlanFile.{plan_in, check_verdict, plan_written}
use Rattle.formats.specs.RequestFile.{request_in}
use Rattle.formats.specs.Writing.{write_verdict}
use Rattle.formats.proofs.Checking.{well_formed_of_accepted}
use Rattle.formats.proofs.PlanShown.{checking_shown, plan_writing_shown, choosing_shown}
use Rattle.formats.proofs.PlanSound.{sound_of_well_formed}
use Rattle.formats.proofs.Shown.{saved_and_read_shown}
use Rattle.texts.specs.Listing.{plan_text}
use Rattle.texts.proofs.Shown.{listing_shown}
use Rattle.promises.specs.Demand2.{Demand2}
use Rattle.switch.proofs.Answer.{plan_within}

right : (r : Request) → Within r → Right r (planned r).plan
right r w = ((planned_as_promised r).within w).1

reasons : (r : Request) → Within r → (c : ℕ) → get_or (planned r).plan.reasons c 0 ≡ reason_of r (rates_of (planned r).plan) c
reasons r w c = go (le_or_lt 64 c)
  where
    go : (64 ≤ c) ⊎ (c < 64) → get_or (planned r).plan.reasons c 0 ≡ reason_of r (rates_of (planned r).plan) c
    go (inl h) = let beyond = beyond_the_cells r (planned r).plan (right r w) c h in beyond.1 ∙ sym beyond.2
    go (inr h) = (right r w).reasons c h

plan_saved : (r : Request) (buffer : List ℕ) → Within r → Shaped r → 1536 ≤ length buffer
    → (write_verdict 1536 r buffer ≡ Accepted) × (check_verdict (take 1536 (plan_written r buffer)) ≡ Accepted)
    × (request_in (take 1536 (plan_written r buffer)) ≡ r) × (plan_in (take 1536 (plan_written r buffer)) ≡ (planned r).plan)
plan_saved r buffer w t room =
    let shown = plan_writing_shown in
    let (accepts, file) = shown.written r buffer w t room in (
      accepts,
      ap check_verdict file ∙ shown.accepted r w t,
      ap request_in file ∙ shown.request_held r w t,
      ap plan_in file ∙ shown.plan_held r w t ∙ sym (plan_within r w),
    )

pub demand2_kept : Demand2
demand2_kept =
    record {
      fair = λ r w. (right r w).fair;
      settled = fair_exactly_when_settled;
      alone = λ r w a positive.
          subst (λ (p : Plan). Fair r a ↔ SameRates r a (rates_of p)) (sym (plan_within r w)) (fair_exactly_planned r w a positive);
      least = λ r w. (right r w).least;
      reasons = reasons;
      one_plan = λ r w p. (
        λ other. right_unique r w p (planned r).plan other (right r w),
        λ e. subst (Right r) (sym e) (right r w),
      );
      well_formed = checking_shown.well_formed_exactly;
      checked = checking_shown.accepted_exactly;
      judged_exactly = judging_shown.accepted_exactly;
      request_saved = saved_and_read_shown.saved_and_read;
      only_saved = saved_and_read_shown.accepted_exactly;
      plan_saved = plan_saved;
      listed = λ r w t.
          listing_shown.planned r w t ∙ ap (plan_text r) (sym (plan_within r w));
      request_damaged = saved_and_read_shown.damage_refused;
      plan_damaged = λ file bytes e.
          let sound = sound_of_well_formed file (well_formed_of_accepted file e) in
          checking_shown.damage_refused file bytes sound.size sound.passes;
      judging = judging_shown;
      checking = checking_shown;
      saving = saved_and_read_shown;
      plan_writing = plan_writing_shown;
      choosing = choosing_shown;
      listing = listing_shown;
    }
