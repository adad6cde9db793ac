-- Every fault of a request file, and of a request that is to be written, is noticed by the rows that it meets, so that what is
-- refused is the first fault.
use Prim.Native.Nat.{ℕ, ◌+◌, ◌*◌, ◌≤◌, ◌<◌}
use mathlib.Core.Bool.{not}
use mathlib.Core.List.{List, [], ◌∷◌, ◌++◌}
use mathlib.Core.Path.{◌≡◌, refl, sym, ◌∙◌, ap, subst}
use native.Mathlib.Nat.{zero-add, le_dest}
use native.Mathlib.Omega.{arith}
use lib.ListN.{length}
use borrow.Author.Tests.{ne_eqb, lt-ltb}
use Rattle.words.specs.Words.{word_at}
use Rattle.words.specs.Check.{word_in}
use Rattle.switch.specs.Given.{Gives, NoLater}
use Rattle.switch.specs.RequestRows.{ports_row, capacity_row, demand_row, not_zero_row}
use Rattle.switch.specs.Rows.{Row}
use Rattle.switch.specs.declared.request.Request.{Request}
use Rattle.switch.specs.declared.verdict.Verdict.TheVariants.{Accepted}
use Rattle.switch.proofs.First.{ascending, Onward, Noticed, first_of_noticed, none_of_noticed}
use Rattle.switch.proofs.Noticed.{request_noticed, request_among, limits_rising, zeros_rising}
use Rattle.switch.proofs.Rising.{Rising, rising_steps, rising_joined}
use Rattle.switch.proofs.Rows.{Each, each_nil, each_cons, each_here, each_after, each_after_three, Named, named_first, named_second}
use Rattle.formats.specs.Fault.{FileFault, size, unsealed, kind, of_request_read, spare, WriteFault, of_request, room}
use Rattle.formats.specs.FileRows.{length_row, check_row, kind_row, spare_row, room_row}
use Rattle.formats.specs.RequestFile.{request_in, file_not_zero_row, request_file_rows, read_verdict}
use Rattle.formats.specs.Writing.{write_rows, write_verdict}
use Rattle.formats.proofs.Fault.{same_check}

-- One place for the only candidate.
pub rising_alone : (row : Row) (at : ℕ) → ((i : ℕ) → row.place i ≡ at) → at ≤ 383 → Rising 0 383 row
rising_alone row at is h = rising_steps row at 0 (λ i. is i ∙ omega arith) (omega arith) (omega arith)

pub room_rising : (bytes : ℕ) (buffer : List ℕ) → Each (Rising 0 383) (room_row bytes buffer ∷ [])
room_rising bytes buffer = each_cons _ (rising_alone (room_row bytes buffer) 0 (λ i. refl) (omega arith)) (each_nil _)

-- The same word of every block.
by_block : (row : Row) (at : ℕ) → ((b : ℕ) → row.place b ≡ 128 * b + at) → row.size ≤ 3 → at ≤ 127 → Rising 0 383 row
by_block row at is few h =
    record {
      bounds = omega arith;
      places = λ i j before below.
          let here = is i in
          let there = is j in
          (omega arith, omega arith, omega arith);
    }

module _ (file : List ℕ) where
  pub frame_rising : (bytes blocks : ℕ) (kinds : List ℕ) {rest : List Row} → blocks ≤ 3 → length kinds ≤ 3
      → Each (Rising 0 383) rest → Each (Rising 0 383) (length_row bytes file ∷ check_row blocks file ∷ kind_row kinds file ∷ rest)
  frame_rising bytes blocks kinds few kind_few rest =
      each_cons _ (rising_alone (length_row bytes file) 0 (λ i. refl) (omega arith))
      (each_cons _ (by_block (check_row blocks file) 127 (λ b. refl) few (omega arith))
      (each_cons _ (by_block (kind_row kinds file) 0 (λ b. omega arith) kind_few (omega arith)) rest))

  pub spare_rising : {low high : ℕ} (block from count : ℕ) → low ≤ 128 * block + from → 128 * block + from + count ≤ high
      → Rising low high (spare_row block from count file)
  spare_rising block from count l h =
      rising_steps (spare_row block from count file) (128 * block + from) 1 (λ i. omega arith) l (omega arith)

  pub spare_noticed : (Q : ℕ → ℕ → Type 0) (block from count : ℕ) → Named Q (spare_row block from count file)
      → (i : ℕ) → from ≤ i → i < from + count → 0 < word_in file block i → Q 7 (128 * block + i)
  spare_noticed Q block from count named i l h more =
      let (j, e) = le_dest l in
      subst (λ x. 0 < word_in file block x → Q 7 (128 * block + x)) e (λ m. named j (omega arith) (lt-ltb 0 _ m)) more

  abbrev r : Request
  r = request_in file

  -- What holds of the offenders of a request file's rows holds of its faults.
  module _ (Q : ℕ → ℕ → Type 0) (on : Onward Q) (all : Each (Named Q) (request_file_rows file)) where
    limits : Each (Named Q) (ports_row r ∷ capacity_row r ∷ demand_row r ∷ file_not_zero_row file ∷ [])
    limits = each_after_three _ all

    zeros : Named Q (file_not_zero_row file)
    zeros = each_here _ (each_after_three _ limits)

    file_noticed : {k p : ℕ} → FileFault file k p → Q k p
    file_noticed (size n) = each_here _ all 0 (omega arith) (ap not (ne_eqb (length file) 512 n))
    file_noticed (unsealed n) =
        each_here _ (each_after _ all) 0 (omega arith)
        (ap not (ne_eqb (word_at file 127) _ (λ e. n (e ∙ sym (same_check file)))))
    file_noticed (kind n) =
        each_here _ (each_after _ (each_after _ all)) 0 (omega arith) (ap not (ne_eqb (word_at file 0) 1 n))
    file_noticed (of_request_read {k} {p} f) =
        request_noticed r Q on
        (request_among r (Named Q) limits (named_first (not_zero_row r) (spare_row 0 83 44 file) Q zeros)) k p f
    file_noticed (spare i l h more) =
        let spares = named_second (not_zero_row r) (spare_row 0 83 44 file) Q refl zeros in
        rw zero-add at (spare_noticed Q 0 83 44 spares i l (omega arith) (rw zero-add more))

  pub read_noticed : Noticed (request_file_rows file) (FileFault file)
  read_noticed Q on all k p = file_noticed Q on all

  -- whatever rows come after them
  pub read_rising : {rest : List Row} → Each (Rising 0 383) rest → Each (Rising 0 383) (request_file_rows file ++ rest)
  read_rising after =
      frame_rising 512 1 (1 ∷ []) (omega arith) (omega arith)
      (limits_rising r (omega arith)
      (each_cons _
      (rising_joined (not_zero_row r) (spare_row 0 83 44 file) 83 (zeros_rising r (omega arith))
      (spare_rising 0 83 44 (omega arith) (omega arith)))
      after))

  pub read_first : (k p : ℕ) → Gives (read_verdict file) k p → (k' p' : ℕ) → FileFault file k' p' → NoLater k p k' p'
  unfolding ascending
  read_first = first_of_noticed (request_file_rows file) (FileFault file) read_noticed refl (read_rising (each_nil _))

  pub read_none : read_verdict file ≡ Accepted → (k p : ℕ) → FileFault file k p → ⊥
  read_none = none_of_noticed (request_file_rows file) (FileFault file) read_noticed

-- The same of the rows that writing meets.
module _ (bytes : ℕ) (r : Request) (buffer : List ℕ) where
  module _ (Q : ℕ → ℕ → Type 0) (on : Onward Q) (all : Each (Named Q) (write_rows bytes r buffer)) where
    last : Each (Named Q) (not_zero_row r ∷ room_row bytes buffer ∷ [])
    last = each_after_three _ all

    unwritten_noticed : {k p : ℕ} → WriteFault bytes r buffer k p → Q k p
    unwritten_noticed (of_request {k} {p} f) = request_noticed r Q on (request_among r (Named Q) all (each_here _ last)) k p f
    unwritten_noticed (room l) = each_here _ (each_after _ last) 0 (omega arith) (lt-ltb (length buffer) bytes l)

  write_noticed : Noticed (write_rows bytes r buffer) (WriteFault bytes r buffer)
  write_noticed Q on all k p = unwritten_noticed Q on all

  pub write_rising : Each (Rising 0 383) (write_rows bytes r buffer)
  write_rising = limits_rising r (omega arith) (each_cons _ (zeros_rising r (omega arith)) (room_rising bytes buffer))

  pub write_first : (k p : ℕ) → Gives (write_verdict bytes r buffer) k p
      → (k' p' : ℕ) → WriteFault bytes r buffer k' p' → NoLater k p k' p'
  unfolding ascending
  write_first = first_of_noticed (write_rows bytes r buffer) (WriteFault bytes r buffer) write_noticed refl write_rising

  pub write_none : write_verdict bytes r buffer ≡ Accepted → (k p : ℕ) → WriteFault bytes r buffer k p → ⊥
  write_none = none_of_noticed (write_rows bytes r buffer) (WriteFault bytes r buffer) write_noticed
