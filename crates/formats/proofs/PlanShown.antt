-- Everything that is to be shown of plan files and of the choice between two.
use Prim.Native.Nat.{ℕ}
use mathlib.Core.List.{List, [], ◌∷◌}
use mathlib.Core.Path.{◌≡◌, refl, ◌∙◌, ap}
use native.Mathlib.Omega.{arith}
use lib.ListN.{length, drop, length-drop}
use lib.Seq.{take_all}
use Rattle.switch.specs.Given.{numbers_of}
use Rattle.switch.specs.Planned.{plan_of}
use Rattle.switch.specs.declared.verdict.Verdict.TheVariants.{Accepted}
use Rattle.switch.proofs.Rows.{given_exactly}
use Rattle.formats.specs.Chosen.{plan_blocks}
use Rattle.formats.specs.PlanFile.{plan_file, plan_file_rows, check_verdict}
use Rattle.formats.specs.PlanShown.{Checking, PlanWriting, Choosing}
use Rattle.formats.proofs.Checking.{accepts_exactly_fair, well_formed_of_accepted, well_formed_exactly, words_of_well_formed, plan_damage_refused}
use Rattle.formats.proofs.PlanContent.{length_plan_file, bytes_plan_file}
use Rattle.formats.proofs.PlanFault.{check_fault}
use Rattle.formats.proofs.PlanNoticed.{check_first, check_none}
use Rattle.formats.proofs.PlanSound.{sound_of_well_formed}
use Rattle.formats.proofs.PlanWritten.{judged_as_file, written_accepted_by_check, request_held, plan_held, words_held}
use Rattle.formats.proofs.Saving.{write_accepts, saved, refused_write_keeps, write_keeps_rest}

check_rows_in_order : (file : List ℕ)
    → numbers_of (plan_file_rows file) ≡ 1 ∷ 2 ∷ 3 ∷ 4 ∷ 5 ∷ 6 ∷ 7 ∷ 8 ∷ 9 ∷ 10 ∷ 11 ∷ 12 ∷ 13 ∷ 14 ∷ 15 ∷ []
check_rows_in_order file = refl

pub checking_shown : Checking
checking_shown =
    record {
      accepted_exactly = accepts_exactly_fair;
      well_formed_exactly = well_formed_exactly;
      words_read = words_of_well_formed;
      judged_as_file = λ r p t pt small fits. judged_as_file r p small fits t pt;
      gives = λ file. given_exactly (plan_file_rows file);
      fault = check_fault;
      first = check_first;
      none = check_none;
      order = check_rows_in_order;
      damage_refused = λ file bytes size passes b k w hb hk hw differs.
          rw (plan_damage_refused file bytes size passes b k w hb hk hw differs) (refl, refl);
    }

pub plan_writing_shown : PlanWriting
plan_writing_shown =
    record {
      written = λ r buffer w t room.
          let accepts = write_accepts 1536 r buffer w room in
          (accepts, saved 1536 (plan_file r (plan_of r)) (length_plan_file r (plan_of r)) r buffer accepts);
      accepted = written_accepted_by_check;
      request_held = request_held;
      plan_held = plan_held;
      words_written = words_held;
      bytes = λ r. (bytes_plan_file r (plan_of r), length_plan_file r (plan_of r));
      refused = λ r. refused_write_keeps 1536 (plan_file r (plan_of r)) r;
      rest_kept = λ r. write_keeps_rest 1536 (plan_file r (plan_of r)) (length_plan_file r (plan_of r)) r;
    }

last_blocks : (file : List ℕ) → check_verdict file ≡ Accepted → (plan_blocks file ≡ drop 512 file) × (length (plan_blocks file) ≡ 1024)
last_blocks file e =
    let size = (sound_of_well_formed file (well_formed_of_accepted file e)).size in
    let rest : length (drop 512 file) ≡ 1024 = length-drop 512 file ∙ omega arith in
    let all = take_all 1024 (drop 512 file) (omega arith) in
    (all, ap length all ∙ rest)

pub choosing_shown : Choosing
choosing_shown =
    record {
      proposed = λ proposed running e. rw e;
      running = λ proposed running x e f. rw (e, f);
      neither = λ proposed running x y e f. rw (e, f);
      blocks = last_blocks;
    }
