-- How a text is put into a buffer, piece after piece. Stands for what proofs/Pieces says; no contract cites it today.
use Rattle.std.specs.Prelude.{ℕ, ◌+◌, ◌≡◌, List, length}
use Rattle.std.proofs.lemmas.List.Edits.{sets}

-- The piece stands in the buffer from `at` on, everything else is as it was, and the next piece has to go to `next`.
pub record Appended (before : List ℕ) (at : ℕ) (piece after : List ℕ) (next : ℕ) : Type 0 where
  pub bytes : after ≡ sets before at piece
  pub end : next ≡ at + length piece
