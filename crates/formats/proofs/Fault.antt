-- The number and the place of a refusal name a fault that is there.
use Prim.Native.Nat.{ℕ, ◌+◌, ◌<◌}
use mathlib.Core.Path.{◌≡◌, refl, ◌∙◌, ap}
use mathlib.Core.Bool.{true, not}
use mathlib.Core.List.{List, [], ◌∷◌}
use native.Mathlib.Nat.{zero-add}
use native.Mathlib.Omega.{arith}
use lib.ListN.{length}
use borrow.Author.Tests.{ltb-true, eq-eqb}
use Rattle.laws.proofs.Search.{true_not_false}
use Rattle.words.specs.Words.{word_at}
use Rattle.words.specs.Check.{check, start_of, word_in}
use Rattle.words.proofs.Sealed.{running_same}
use Rattle.switch.specs.Fault.{Fault}
use Rattle.switch.specs.Given.{Gives}
use Rattle.switch.specs.Numbering.{number_of}
use Rattle.switch.specs.RequestRows.{ports_row, capacity_row, demand_row, not_zero_row}
use Rattle.switch.specs.Rows.{Row}
use Rattle.switch.specs.declared.request.Request.{Request}
use Rattle.switch.proofs.Fault.{ports_named, capacities_named, demands_named, zeros_named}
use Rattle.switch.proofs.Rows.{each_nil, each_cons, Named, named_joined, gives_named}
use Rattle.formats.specs.Fault.{FileFault, size, unsealed, kind, of_request_read, spare, WriteFault, of_request, room}
use Rattle.formats.specs.FileRows.{length_row, check_row, kind_row, spare_row, room_row}
use Rattle.formats.specs.RequestFile.{request_in, file_not_zero_row, request_file_rows, read_verdict}
use Rattle.formats.specs.Writing.{write_rows, write_verdict}
use Rattle.formats.proofs.Sound.{one_candidate}

-- A row of one candidate names what candidate 0 is.
pub one_named : (Q : ℕ → ℕ → Type 0) (row : Row) → row.size ≡ 1
    → (row.offends 0 ≡ true → Q (number_of row.cause) (row.place 0)) → Named Q row
one_named Q row alone named i h =
    one_candidate (λ j. row.offends j ≡ true → Q (number_of row.cause) (row.place j)) named i (omega arith)

-- The room's row names that there are too few bytes, whatever is to be written.
pub room_named : (Q : ℕ → ℕ → Type 0) (bytes : ℕ) (buffer : List ℕ) → (length buffer < bytes → Q 16 0) → Named Q (room_row bytes buffer)
room_named Q bytes buffer short = one_named Q (room_row bytes buffer) refl (λ e. short (ltb-true (length buffer) bytes e))

module _ (file : List ℕ) where
  length_named : Named (FileFault file) (length_row 512 file)
  length_named =
      one_named (FileFault file) (length_row 512 file) refl
      (λ e. size (λ s. true_not_false e (ap not (eq-eqb (length file) 512 s))))

  pub same_check : check (start_of 0) (word_at file) ≡ check (start_of 0) (word_in file 0)
  same_check = running_same (start_of 0) (word_at file) (word_in file 0) 127 (λ i h. rw zero-add)

  check_named : Named (FileFault file) (check_row 1 file)
  check_named =
      one_named (FileFault file) (check_row 1 file) refl
      (λ e. unsealed (λ s. true_not_false e (ap not (eq-eqb (word_at file 127) _ (s ∙ same_check)))))

  kind_named : Named (FileFault file) (kind_row (1 ∷ []) file)
  kind_named =
      one_named (FileFault file) (kind_row (1 ∷ []) file) refl
      (λ e. kind (λ s. true_not_false e (ap not (eq-eqb (word_at file 0) 1 s))))

  in_file : (row : Row) → Named (Fault (request_in file)) row → Named (FileFault file) row
  in_file row named i h e = of_request_read (named i h e)

  spare_named : Named (FileFault file) (spare_row 0 83 44 file)
  spare_named i h e =
      let above : 0 < word_in file 0 (83 + i) = ltb-true 0 (word_in file 0 (83 + i)) e in
      rw zero-add (spare (83 + i) (omega arith) (omega arith) (rw zero-add at above))

  not_zero_named : Named (FileFault file) (file_not_zero_row file)
  not_zero_named =
      let zeros = not_zero_row (request_in file) in
      named_joined zeros (spare_row 0 83 44 file) (FileFault file) refl (in_file zeros (zeros_named (request_in file))) spare_named

  pub read_fault : (k p : ℕ) → Gives (read_verdict file) k p → FileFault file k p
  read_fault =
      let r = request_in file in
      gives_named (request_file_rows file) (FileFault file)
      (each_cons _ length_named
      (each_cons _ check_named
      (each_cons _ kind_named
      (each_cons _ (in_file (ports_row r) (ports_named r))
      (each_cons _ (in_file (capacity_row r) (capacities_named r))
      (each_cons _ (in_file (demand_row r) (demands_named r)) (each_cons _ not_zero_named (each_nil _))))))))

module _ (size : ℕ) (r : Request) (buffer : List ℕ) where
  in_request : (row : Row) → Named (Fault r) row → Named (WriteFault size r buffer) row
  in_request row named i h e = of_request (named i h e)

  pub write_fault : (k p : ℕ) → Gives (write_verdict size r buffer) k p → WriteFault size r buffer k p
  write_fault =
      gives_named (write_rows size r buffer) (WriteFault size r buffer)
      (each_cons _ (in_request (ports_row r) (ports_named r))
      (each_cons _ (in_request (capacity_row r) (capacities_named r))
      (each_cons _ (in_request (demand_row r) (demands_named r))
      (each_cons _ (in_request (not_zero_row r) (zeros_named r))
      (each_cons _ (room_named (WriteFault size r buffer) size buffer room) (each_nil _))))))
