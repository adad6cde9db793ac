-- What the call from a request file to a plan file answers, once the request has been read.
use Prim.Native.Nat.{ℕ}
use mathlib.Core.Path.{◌≡◌, sym, ◌∙◌, ap}
use mathlib.Core.List.{List, [], ◌∷◌, ◌++◌}
use lib.ListN.{drop}
use Rattle.switch.specs.Planned.{plan_of}
use Rattle.switch.specs.RequestRows.{request_rows}
use Rattle.switch.specs.Rows.{or_else, verdict_of, if_accepted}
use Rattle.switch.specs.declared.verdict.Refusal.{Refusal}
use Rattle.switch.specs.declared.verdict.Verdict.{Verdict}
use Rattle.switch.specs.declared.verdict.Verdict.TheVariants.{Accepted, Refused}
use Rattle.switch.proofs.Rows.{accepts_both, verdict_append}
use Rattle.switch.proofs.Within.{accepted_of_within}
use Rattle.formats.specs.FileRows.{room_row}
use Rattle.formats.specs.PlanFile.{plan_file, plan_written}
use Rattle.formats.specs.RequestFile.{request_in, request_file_rows, read_verdict}
use Rattle.formats.specs.Writing.{write_verdict}
use Rattle.formats.proofs.Sound.{sound_of_accepted}
use Rattle.codes.specs.Code.{plan_verdict, plan_laid}

module _ (file buffer : List ℕ) where
  abbrev room : Verdict
  room = verdict_of (room_row 1536 buffer ∷ [])

  -- an accepted file leaves only the room to ask for, and so does its request
  pub verdict_of_read : read_verdict file ≡ Accepted → plan_verdict file buffer ≡ write_verdict 1536 (request_in file) buffer
  verdict_of_read e =
      verdict_append (request_file_rows file) (room_row 1536 buffer ∷ [])
      ∙ ap (λ v. or_else v room) (e ∙ sym (accepted_of_within (request_in file) (sound_of_accepted file e).within))
      ∙ sym (verdict_append (request_rows (request_in file)) (room_row 1536 buffer ∷ []))

  pub laid_of_read : read_verdict file ≡ Accepted → plan_laid file buffer ≡ plan_written (request_in file) buffer
  laid_of_read e =
      let r = request_in file in
      ap (λ v. if_accepted v (plan_file r (plan_of r) ++ drop 1536 buffer) buffer) (verdict_of_read e)

  -- a refused file is refused, and leaves the buffer
  pub verdict_of_refused : (x : Refusal) → read_verdict file ≡ Refused x → plan_verdict file buffer ≡ Refused x
  verdict_of_refused x e =
      verdict_append (request_file_rows file) (room_row 1536 buffer ∷ []) ∙ ap (λ v. or_else v room) e

  pub laid_of_refused : (x : Refusal) → read_verdict file ≡ Refused x → plan_laid file buffer ≡ buffer
  laid_of_refused x e = rw (verdict_of_refused x e)

  pub read_of_accepted : plan_verdict file buffer ≡ Accepted → read_verdict file ≡ Accepted
  read_of_accepted e =
      (accepts_both (read_verdict file) room (sym (verdict_append (request_file_rows file) (room_row 1536 buffer ∷ [])) ∙ e)).0

  pub laid_refused : (x : Refusal) → plan_verdict file buffer ≡ Refused x → plan_laid file buffer ≡ buffer
  laid_refused x e = rw e
