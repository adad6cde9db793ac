-- Writing a file into a buffer: when it is accepted, and what it leaves; and that reading and writing a request undo each other.
use Prim.Native.Nat.{ℕ, ◌≤◌}
use mathlib.Core.Path.{◌≡◌, refl, sym, ap, ◌∙◌}
use mathlib.Core.List.{List, [], ◌∷◌, ◌++◌}
use native.Mathlib.Omega.{arith}
use lib.ListN.{length, take, drop}
use lib.Seq.{take_at, drop_at, length_front, length-take-le}
use borrow.Author.Tests.{le-ltb, ltb-false}
use Rattle.words.specs.Words.{Bytes}
use Rattle.switch.specs.Rows.{Row, verdict_of, if_accepted}
use Rattle.switch.specs.RequestRows.{request_rows, request_verdict}
use Rattle.switch.specs.Within.{Within, Shaped}
use Rattle.switch.specs.declared.request.Request.{Request}
use Rattle.switch.specs.declared.verdict.Refusal.{Refusal}
use Rattle.switch.specs.declared.verdict.Verdict.{Verdict}
use Rattle.switch.specs.declared.verdict.Verdict.TheVariants.{Accepted, Refused}
use Rattle.switch.proofs.Rows.{silent_nil, silent_cons, silent_here, accepted_exactly, verdict_append, accepts_both}
use Rattle.switch.proofs.Within.{within_of_accepted, accepted_of_within}
use Rattle.formats.specs.FileRows.{room_row}
use Rattle.formats.specs.RequestFile.{request_file, request_in, read_verdict, request_read, request_written}
use Rattle.formats.specs.Writing.{write_verdict, written}
use Rattle.formats.specs.declared.request.RequestRead.{RequestRead}
use Rattle.formats.proofs.RequestFile.{length_file, read_accepted, read_back, written_of_accepted}
use Rattle.formats.proofs.Sound.{sound_of_accepted}

-- Whatever the file to be written, and however many bytes it has.
module _ (size : ℕ) where
  pub write_accepts : (r : Request) (buffer : List ℕ) → Within r → size ≤ length buffer → write_verdict size r buffer ≡ Accepted
  write_accepts r buffer w room =
      verdict_append (request_rows r) (room_row size buffer ∷ [])
      ∙ rw (accepted_of_within r w)
      ((accepted_exactly (room_row size buffer ∷ [])).1 (silent_cons (λ i h. le-ltb (length buffer) size room) silent_nil))

  -- The converse: a request that is written is within the limits, and there is room for its file.
  pub room_of_accepted : (r : Request) (buffer : List ℕ) → write_verdict size r buffer ≡ Accepted → Within r × (size ≤ length buffer)
  room_of_accepted r buffer e =
      let rows : List Row = room_row size buffer ∷ [] in
      let (own, room) = accepts_both (request_verdict r) (verdict_of rows) (sym (verdict_append (request_rows r) rows) ∙ e) in (
        within_of_accepted r own,
        ltb-false (length buffer) size (silent_here ((accepted_exactly rows).0 room) 0 (omega arith)),
      )

  module _ (file : List ℕ) where
    pub written_accepted : (r : Request) (buffer : List ℕ) → write_verdict size r buffer ≡ Accepted
        → written size file r buffer ≡ file ++ drop size buffer
    written_accepted r buffer e = rw e

    pub refused_write_keeps : (r : Request) (buffer : List ℕ) (x : Refusal) → write_verdict size r buffer ≡ Refused x
        → written size file r buffer ≡ buffer
    refused_write_keeps r buffer x e = rw e

    module _ (long : length file ≡ size) (r : Request) (buffer : List ℕ) where
      pub saved : write_verdict size r buffer ≡ Accepted → take size (written size file r buffer) ≡ file
      saved e = ap (take size) (written_accepted r buffer e) ∙ take_at file (drop size buffer) size long

      pub write_keeps_rest : (length (written size file r buffer) ≡ length buffer)
          × (drop size (written size file r buffer) ≡ drop size buffer)
      write_keeps_rest = go (write_verdict size r buffer) refl
        where
          go : (v : Verdict) → write_verdict size r buffer ≡ v
              → (length (if_accepted v (file ++ drop size buffer) buffer) ≡ length buffer)
              × (drop size (if_accepted v (file ++ drop size buffer) buffer) ≡ drop size buffer)
          go (Refused x) e = (refl, refl)
          go Accepted e =
              let room = length-take-le size buffer (room_of_accepted r buffer e).1 in
              (length_front buffer file size (long ∙ sym room), drop_at file (drop size buffer) size long)

-- A request that is saved and read comes back.
pub saved_and_read : (r : Request) (buffer : List ℕ) → Within r → Shaped r → 512 ≤ length buffer
    → (write_verdict 512 r buffer ≡ Accepted)
    × (request_read (take 512 (request_written r buffer)) ≡ record { verdict = Accepted; request = r })
saved_and_read r buffer w t room =
    let accepts = write_accepts 512 r buffer w room in
    (accepts, ap request_read (saved 512 (request_file r) (length_file r) r buffer accepts) ∙ read_back r w t)

-- A file that is read and saved comes back.
pub read_and_saved : (file buffer : List ℕ) → Bytes file → read_verdict file ≡ Accepted → 512 ≤ length buffer
    → request_written (request_read file).request buffer ≡ file ++ drop 512 buffer
read_and_saved file buffer bytes e room =
    let r = request_in file in
    ap (λ (x : RequestRead). request_written x.request buffer) (read_accepted file e)
    ∙ written_accepted 512 (request_file r) r buffer (write_accepts 512 r buffer (sound_of_accepted file e).within room)
    ∙ ap (λ (x : List ℕ). x ++ drop 512 buffer) (written_of_accepted file bytes e)
