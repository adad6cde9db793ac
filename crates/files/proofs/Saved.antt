-- Stands because docs/PORT.md names it; no function cites it today: asking for the verdict of a request and then for room,
-- joined, says what the rows of writing say.
use Prim.Native.Nat.{ℕ}
use mathlib.Core.List.{List, [], ◌∷◌}
use mathlib.Core.Path.{◌≡◌, sym, ◌∙◌, ap₂}
use Rattle.switch.specs.RequestRows.{request_rows, request_verdict}
use Rattle.switch.specs.Rows.{row_verdict, or_else, verdict_of}
use Rattle.switch.specs.declared.request.Request.{Request}
use Rattle.switch.specs.declared.verdict.Verdict.{Verdict}
use Rattle.switch.proofs.Rows.{or_else_accepted, verdict_append}
use Rattle.formats.specs.FileRows.{room_row}
use Rattle.formats.specs.Writing.{write_verdict}

pub asked_to_write : (size : ℕ) (r : Request) (buffer : List ℕ) {v own room : Verdict}
    → v ≡ or_else own room
    → own ≡ request_verdict r
    → room ≡ row_verdict (room_row size buffer)
    → v ≡ write_verdict size r buffer
unfolding verdict_of
asked_to_write size r buffer e own room =
    e ∙ ap₂ or_else own (room ∙ sym (or_else_accepted _)) ∙ sym (verdict_append (request_rows r) (room_row size buffer ∷ []))
