-- The first demand is met.
use Prim.Native.Nat.{◌≤◌}
use mathlib.Core.Path.{◌≡◌, sym, ap, subst}
use Rattle.switch.specs.Planned.{plan_of}
use Rattle.switch.specs.RequestRows.{request_rows}
use Rattle.switch.specs.Rows.{if_accepted}
use Rattle.switch.specs.Values.{empty_plan}
use Rattle.switch.specs.declared.plan.Plan.{Plan}
use Rattle.switch.specs.declared.verdict.Verdict.{Verdict}
use Rattle.switch.specs.declared.verdict.Verdict.TheVariants.{Accepted}
use Rattle.switch.proofs.Fault.{request_fault}
use Rattle.switch.proofs.RequestFirst.{request_first, request_none}
use Rattle.switch.proofs.Numbering.{request_rows_in_order}
use Rattle.switch.proofs.Planned.{base_of_plan_of}
use Rattle.switch.proofs.Rows.{given_exactly}
use Rattle.switch.proofs.Within.{accepted_of_within, within_of_accepted}
use Rattle.judging.specs.PlanRows.{judged}
use Rattle.judging.proofs.Shown.{judging_shown}
use Rattle.formats.specs.PlanFile.{plan_file, check_verdict}
use Rattle.formats.specs.RequestFile.{request_file}
use Rattle.formats.proofs.PlanShown.{checking_shown, plan_writing_shown}
use Rattle.formats.proofs.RequestFile.{length_file, read_accepts_written}
use Rattle.formats.proofs.Shown.{refusals_shown}
use Rattle.texts.proofs.Shown.{listing_shown}
use Rattle.codes.specs.Code.{plan_rows}
use Rattle.codes.proofs.Fault.{laid_fault, laid_first, laid_none}
use Rattle.codes.proofs.Shown.{exporting_shown}
use Rattle.promises.specs.Demand1.{Demand1}
use Rattle.switch.proofs.Answer.{plan_within}

pub demand1_kept : Demand1
demand1_kept =
    record {
      planning = λ r.
          record {
            exactly = given_exactly (request_rows r);
            order = request_rows_in_order r;
            named = request_fault r;
            first = request_first r;
            none = request_none r;
          };
      reading = λ file.
          record {
            exactly = refusals_shown.read_gives file;
            order = refusals_shown.read_order file;
            named = refusals_shown.read_fault file;
            first = refusals_shown.read_first file;
            none = refusals_shown.read_none file;
          };
      writing = λ size r buffer.
          record {
            exactly = refusals_shown.write_gives size r buffer;
            order = refusals_shown.write_order size r buffer;
            named = refusals_shown.write_fault size r buffer;
            first = refusals_shown.write_first size r buffer;
            none = refusals_shown.write_none size r buffer;
          };
      judging = λ r p.
          record {
            exactly = judging_shown.gives r p;
            order = judging_shown.order r p;
            named = judging_shown.fault r p;
            first = judging_shown.first r p;
            none = judging_shown.none r p;
          };
      checking = λ file.
          record {
            exactly = checking_shown.gives file;
            order = checking_shown.order file;
            named = checking_shown.fault file;
            first = checking_shown.first file;
            none = checking_shown.none file;
          };
      exporting = λ file buffer.
          record {
            exactly = given_exactly (plan_rows file buffer);
            order = exporting_shown.order file buffer;
            named = laid_fault file buffer;
            first = laid_first file buffer;
            none = laid_none file buffer;
          };
      request_not_written = λ r. refusals_shown.refused_write 512 (request_file r) r;
      plan_not_written = plan_writing_shown.refused;
      behind_request = λ r. refusals_shown.rest_kept 512 (request_file r) (length_file r) r;
      behind_plan = plan_writing_shown.rest_kept;
      not_listed = listing_shown.without_room;
      behind_listing = listing_shown.rest_kept;
      no_plan = λ r x e. ap (λ (v : Verdict). if_accepted v (plan_of r) empty_plan) e;
      no_request = refusals_shown.refused_read;
      refusal_listed = listing_shown.refused;
      for_c = exporting_shown;
      planned_exactly = λ r. (within_of_accepted r, accepted_of_within r);
      base_fits = λ r w.
          subst (λ (p : Plan). (1 ≤ p.base) × (p.base ≤ 4_294_967_296)) (sym (plan_within r w)) (base_of_plan_of r w);
      written_exactly = refusals_shown.write_accepts;
      read_again = read_accepts_written;
      accepted_again = λ r w t.
          subst (λ (p : Plan). check_verdict (plan_file r p) ≡ Accepted) (sym (plan_within r w)) (plan_writing_shown.accepted r w t);
      judged_right = λ r w.
          subst (λ (p : Plan). judged r p ≡ Accepted) (sym (plan_within r w)) (judging_shown.plan_accepted r w);
    }
