-- What the rows ask of a request file, without the rows; and that a file with the right frame is read as its request is checked.
use Prim.Native.Nat.{ℕ, zero, suc, ◌+◌, ◌≤◌, ◌<◌}
use mathlib.Core.Path.{◌≡◌, refl, sym, ap}
use mathlib.Core.Bool.{true, false, not}
use mathlib.Core.List.{List, [], ◌∷◌}
use native.Mathlib.Nat.{zero-add, add_assoc, le_dest}
use native.Mathlib.Omega.{arith}
use lib.ListN.{length}
use borrow.Author.Tests.{eq-eqb, eqb-true, ltb-false, not-false}
use Rattle.laws.proofs.Lists.{cells-list}
use Rattle.words.specs.Words.{word_at}
use Rattle.words.specs.Check.{sealed, start_of, word_in}
use Rattle.switch.specs.Cells.{cell_of}
use Rattle.switch.specs.Given.{AllSilent}
use Rattle.switch.specs.RequestRows.{not_zero_row, request_verdict}
use Rattle.switch.specs.Rows.{row_verdict, or_else, verdict_of}
use Rattle.switch.specs.Within.{Within}
use Rattle.switch.specs.declared.verdict.Verdict.TheVariants.{Accepted}
use Rattle.switch.proofs.Cells.{cell_below}
use Rattle.switch.proofs.Rows.{silent_nil, silent_cons, silent_here, silent_after, silent_first, silent_second, accepted_exactly}
use Rattle.switch.proofs.Rows.{or_else_accepted, joined_verdict, row_accepted_exactly}
use Rattle.switch.proofs.Within.{within_of_silent}
use Rattle.formats.specs.FileRows.{length_row, check_row, kind_row, spare_row}
use Rattle.formats.specs.RequestFile.{Holds, request_in, request_file_rows, read_verdict}

-- What the rows ask of a file, without the rows.
pub record Sound (file : List ℕ) : Type 0 where
  pub size : length file ≡ 512
  pub passes : sealed (start_of 0) (word_in file 0) ≡ true
  pub kind : word_at file 0 ≡ 1
  pub within : Within (request_in file)
  pub spare : (i : ℕ) → 83 ≤ i → i ≤ 126 → word_at file i ≡ 0

-- A row of one candidate is asked of candidate 0 only.
pub one_candidate : (Q : ℕ → Type 0) → Q 0 → (i : ℕ) → i < 1 → Q i
one_candidate Q here zero h = here
one_candidate Q here (suc i) h = absurd (omega arith)

module _ (file : List ℕ) where
  sound_of_silent : AllSilent (request_file_rows file) → Sound file
  sound_of_silent all =
      let checks = silent_after all in
      let kinds = silent_after checks in
      let ports = silent_after kinds in
      let capacities = silent_after ports in
      let demands = silent_after capacities in
      let zeros = silent_here (silent_after demands) in
      record {
        size = eqb-true (length file) 512 (not-false _ (silent_here all 0 (omega arith)));
        passes = not-false _ (silent_here checks 0 (omega arith));
        kind = eqb-true (word_at file 0) 1 (not-false _ (silent_here kinds 0 (omega arith)));
        within =
            within_of_silent (request_in file)
            (silent_cons (silent_here ports) (silent_cons (silent_here capacities) (silent_cons (silent_here demands)
            (silent_cons (silent_first (not_zero_row (request_in file)) (spare_row 0 83 44 file) zeros) silent_nil))));
        spare = λ i h l.
            let (k, e) = le_dest h in
            let none = silent_second (not_zero_row (request_in file)) (spare_row 0 83 44 file) zeros k (omega arith) in
            rw (← e, ← zero-add (83 + k)) (omega (arith, ltb-false 0 (word_in file 0 (83 + k)) none));
      }

  pub sound_of_accepted : read_verdict file ≡ Accepted → Sound file
  sound_of_accepted e = sound_of_silent ((accepted_exactly (request_file_rows file)).0 e)

  -- A file that is framed as it should be, and whose spare words are 0, is read as the request that it holds is checked.
  pub read_as_checked : length file ≡ 512 → sealed (start_of 0) (word_in file 0) ≡ true → word_at file 0 ≡ 1
      → ((i : ℕ) → 83 ≤ i → i ≤ 126 → word_at file i ≡ 0) → read_verdict file ≡ request_verdict (request_in file)
  unfolding verdict_of
  read_as_checked size passes kind spare =
      let zeros = not_zero_row (request_in file) in
      rw (
        (row_accepted_exactly (length_row 512 file)).1 (λ i h. ap not (eq-eqb (length file) 512 size)),
        (row_accepted_exactly (check_row 1 file)).1
            (one_candidate (λ i. (check_row 1 file).offends i ≡ false) (ap not passes)),
        (row_accepted_exactly (kind_row (1 ∷ []) file)).1
            (one_candidate (λ i. (kind_row (1 ∷ []) file).offends i ≡ false) (ap not (eq-eqb (word_at file 0) 1 kind))),
        joined_verdict zeros (spare_row 0 83 44 file) refl,
        (row_accepted_exactly (spare_row 0 83 44 file)).1
            (λ i h. rw (zero-add (83 + i), spare (83 + i) (omega arith) (omega arith))),
        or_else_accepted (or_else (row_verdict zeros) Accepted),
      )

  -- What an accepted file's words say of the request that is read.
  pub holds_of_file : read_verdict file ≡ Accepted → Holds (word_at file) (request_in file)
  holds_of_file e =
      let s = sound_of_accepted e in
      record {
        kind = s.kind;
        inputs = refl;
        outputs = refl;
        input_capacity_within = λ u h. sym (cells-list 8 _ u.0 h);
        output_capacity_within = λ v h. sym (cells-list 8 _ v.0 h);
        demand = λ u v hu hv. rw add_assoc (sym (cells-list 64 _ (cell_of u v) (cell_below u v hu hv)));
        spare = s.spare;
      }
