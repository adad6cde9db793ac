-- What is wrong where, of bytes: rows 1 to 7 of document 01's table 'Refusal numbers' for a request file, and 4 to 7 and 16
-- for a request that is to be written, said without any search. A refusal's number and place have to name such a fault.
use Rattle.std.specs.Prelude.{ℕ, ◌≤◌, ◌<◌, ◌≡◌, List, length}
use Rattle.words.specs.Words.{word_at}
use Rattle.words.specs.Check.{check, start_of}
use Rattle.switch.specs.Fault.{Fault}
use Rattle.switch.specs.declared.request.Request.{Request}
use Rattle.formats.specs.RequestFile.{request_in}

-- The request's own faults have its file's words for places, so they stand in a file where they stand in its request.
pub data FileFault (file : List ℕ) : ℕ → ℕ → Type 0 where
  size : (length file ≡ 512 → ⊥) → FileFault file 1 0
  unsealed : (word_at file 127 ≡ check (start_of 0) (word_at file) → ⊥) → FileFault file 2 127
  kind : (word_at file 0 ≡ 1 → ⊥) → FileFault file 3 0
  of_request_read : {k p : ℕ} → Fault (request_in file) k p → FileFault file k p
  spare : (i : ℕ) → 83 ≤ i → i ≤ 126 → 0 < word_at file i → FileFault file 7 i

pub data WriteFault (size : ℕ) (r : Request) (buffer : List ℕ) : ℕ → ℕ → Type 0 where
  of_request : {k p : ℕ} → Fault r k p → WriteFault size r buffer k p
  room : length buffer < size → WriteFault size r buffer 16 0
