-- What is shown of request files, and of writing files of any size, in one place: with `RequestFile` and `Writing`, the file
-- to read. The first demand asks for what it says of refusals, and the second for saving and reading.
use Rattle.std.specs.Prelude.{ℕ, ◌≤◌, ◌<◌, ◌↔◌, ◌≡◌, List, [], ◌∷◌, ◌++◌, length, take, drop}
use Rattle.words.specs.Words.{Bytes, word_at, with_word}
use Rattle.switch.specs.Given.{Applies, Gives, NoLater, numbers_of}
use Rattle.switch.specs.Numbering.{number_of}
use Rattle.switch.specs.RequestRows.{request_verdict}
use Rattle.switch.specs.Rows.{Row}
use Rattle.switch.specs.Values.{zero_request}
use Rattle.switch.specs.Within.{Within, Shaped}
use Rattle.switch.specs.declared.request.Request.{Request}
use Rattle.switch.specs.declared.verdict.Refusal.{Refusal}
use Rattle.switch.specs.declared.verdict.Verdict.TheVariants.{Accepted, Refused}
use Rattle.formats.specs.Fault.{FileFault, WriteFault}
use Rattle.formats.specs.RequestFile.{Holds, request_word, request_file, request_file_rows, read_verdict, request_read, request_written}
use Rattle.formats.specs.Writing.{write_rows, write_verdict, written}

-- Saving and reading, for every request, every buffer and every row of bytes.
pub record SavedAndRead : Type 0 where
  -- a request within the limits is written wherever there is room, and read back as it was
  pub saved_and_read : (r : Request) (buffer : List ℕ) → Within r → Shaped r → 512 ≤ length buffer
      → (write_verdict 512 r buffer ≡ Accepted)
      × (request_read (take 512 (request_written r buffer)) ≡ record { verdict = Accepted; request = r })
  -- reading accepts the files that writing makes, and no others
  pub accepted_exactly : (file : List ℕ) → Bytes file
      → (read_verdict file ≡ Accepted) ↔ ((r : Request) × Within r × Shaped r × (file ≡ request_file r))
  -- and what was read is written as it was
  pub read_and_saved : (file buffer : List ℕ) → Bytes file → read_verdict file ≡ Accepted → 512 ≤ length buffer
      → request_written (request_read file).request buffer ≡ file ++ drop 512 buffer
  -- within the limits or not, a request of numbers of 32 bits has the verdict of the file that would hold it, number and place
  pub checked_as_file : (r : Request) → Shaped r → ((i : ℕ) → request_word r i < 4_294_967_296)
      → read_verdict (request_file r) ≡ request_verdict r
  -- the file of a request is a row of bytes, so that what is said here of files is said of it too
  pub bytes_written : (r : Request) → Bytes (request_file r)
  -- the words of a file that is written, and of one that is read, stand where document 01 puts them
  pub words_written : (r : Request) → Within r → Shaped r → Holds (word_at (request_file r)) r
  pub words_read : (file : List ℕ) → read_verdict file ≡ Accepted → Holds (word_at file) (request_read file).request
  -- a file of which one word was changed is refused 2 at word 127
  pub damage_refused : (file : List ℕ) → Bytes file → read_verdict file ≡ Accepted
      → (k w : ℕ) → k < 128 → w < 4_294_967_296 → (w ≡ word_at file k → ⊥)
      → Gives (read_verdict (with_word file k w)) 2 127

-- Refusals: which number, which place, and what is left as it was.
pub record Refusals : Type 0 where
  -- reading gives number k at place p exactly when a row of that number applies there and no row before it applies
  pub read_gives : (file : List ℕ) (k p : ℕ)
      → Gives (read_verdict file) k p ↔ ((row : Row) × Applies (request_file_rows file) row p × (number_of row.cause ≡ k))
  -- and so does writing, whatever the file's size
  pub write_gives : (size : ℕ) (r : Request) (buffer : List ℕ) (k p : ℕ)
      → Gives (write_verdict size r buffer) k p ↔ ((row : Row) × Applies (write_rows size r buffer) row p × (number_of row.cause ≡ k))
  -- what a refusal names is there, in the place that it names
  pub read_fault : (file : List ℕ) (k p : ℕ) → Gives (read_verdict file) k p → FileFault file k p
  pub write_fault : (size : ℕ) (r : Request) (buffer : List ℕ) (k p : ℕ)
      → Gives (write_verdict size r buffer) k p → WriteFault size r buffer k p
  -- and is the first: no fault has a lower number, and none of the same number a lower place
  pub read_first : (file : List ℕ) (k p : ℕ) → Gives (read_verdict file) k p
      → (k' p' : ℕ) → FileFault file k' p' → NoLater k p k' p'
  pub write_first : (size : ℕ) (r : Request) (buffer : List ℕ) (k p : ℕ) → Gives (write_verdict size r buffer) k p
      → (k' p' : ℕ) → WriteFault size r buffer k' p' → NoLater k p k' p'
  -- what is accepted has no fault
  pub read_none : (file : List ℕ) → read_verdict file ≡ Accepted → (k p : ℕ) → FileFault file k p → ⊥
  pub write_none : (size : ℕ) (r : Request) (buffer : List ℕ)
      → write_verdict size r buffer ≡ Accepted → (k p : ℕ) → WriteFault size r buffer k p → ⊥
  -- the rows are the table's, in its order
  pub read_order : (file : List ℕ) → numbers_of (request_file_rows file) ≡ 1 ∷ 2 ∷ 3 ∷ 4 ∷ 5 ∷ 6 ∷ 7 ∷ []
  pub write_order : (size : ℕ) (r : Request) (buffer : List ℕ) → numbers_of (write_rows size r buffer) ≡ 4 ∷ 5 ∷ 6 ∷ 7 ∷ 16 ∷ []
  -- writing refuses nothing else than what is outside the limits or has no room
  pub write_accepts : (size : ℕ) (r : Request) (buffer : List ℕ)
      → (write_verdict size r buffer ≡ Accepted) ↔ (Within r × (size ≤ length buffer))
  -- a refused reading hands back zeros, and a refused writing leaves the buffer, whatever file was to be written
  pub refused_read : (file : List ℕ) (x : Refusal) → read_verdict file ≡ Refused x → (request_read file).request ≡ zero_request
  pub refused_write : (size : ℕ) (file : List ℕ) (r : Request) (buffer : List ℕ) (x : Refusal)
      → write_verdict size r buffer ≡ Refused x → written size file r buffer ≡ buffer
  -- whatever the verdict, the bytes after the file are kept
  pub rest_kept : (size : ℕ) (file : List ℕ) → length file ≡ size → (r : Request) (buffer : List ℕ)
      → (length (written size file r buffer) ≡ length buffer) × (drop size (written size file r buffer) ≡ drop size buffer)
