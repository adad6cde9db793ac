-- Everything that is to be shown of request files and of writing.
use Prim.Native.Nat.{ℕ}
use mathlib.Core.Path.{◌≡◌, refl, sym, subst, ◌∙◌, ap}
use mathlib.Core.List.{List, [], ◌∷◌}
use Rattle.words.specs.Words.{word_at}
use Rattle.words.specs.Check.{start_of}
use Rattle.words.proofs.Sealed.{block_bytes}
use Rattle.switch.specs.Given.{numbers_of}
use Rattle.switch.specs.declared.request.Request.{Request}
use Rattle.switch.proofs.Rows.{given_exactly}
use Rattle.formats.specs.RequestFile.{Holds, request_word, request_file, request_file_rows}
use Rattle.formats.specs.Shown.{SavedAndRead, Refusals}
use Rattle.formats.specs.Writing.{write_rows}
use Rattle.formats.specs.declared.request.RequestRead.{RequestRead}
use Rattle.formats.proofs.RequestFile.{read_accepted, checked_as_file, read_accepts_written, read_back}
use Rattle.formats.proofs.RequestFile.{damage_refused, accepts_exactly_written, refused_read_is_zero}
use Rattle.formats.proofs.Saving.{saved_and_read, read_and_saved, write_accepts, room_of_accepted, refused_write_keeps, write_keeps_rest}
use Rattle.formats.proofs.Fault.{read_fault, write_fault}
use Rattle.formats.proofs.Noticed.{read_first, read_none, write_first, write_none}
use Rattle.formats.proofs.Sound.{holds_of_file}

read_rows_in_order : (file : List ℕ) → numbers_of (request_file_rows file) ≡ 1 ∷ 2 ∷ 3 ∷ 4 ∷ 5 ∷ 6 ∷ 7 ∷ []
read_rows_in_order file = refl

write_rows_in_order : (size : ℕ) (r : Request) (buffer : List ℕ) → numbers_of (write_rows size r buffer) ≡ 4 ∷ 5 ∷ 6 ∷ 7 ∷ 16 ∷ []
write_rows_in_order size r buffer = refl

pub saved_and_read_shown : SavedAndRead
saved_and_read_shown =
    record {
      saved_and_read = saved_and_read;
      accepted_exactly = accepts_exactly_written;
      read_and_saved = read_and_saved;
      checked_as_file = λ r t small. checked_as_file r small t;
      bytes_written = λ r. block_bytes (start_of 0) (request_word r);
      words_written = λ r w t.
          subst (Holds (word_at (request_file r)))
          (sym (ap (λ (x : RequestRead). x.request) (read_accepted (request_file r) (read_accepts_written r w t)))
          ∙ ap (λ (x : RequestRead). x.request) (read_back r w t))
          (holds_of_file (request_file r) (read_accepts_written r w t));
      words_read = λ file e.
          subst (Holds (word_at file)) (sym (ap (λ (x : RequestRead). x.request) (read_accepted file e))) (holds_of_file file e);
      damage_refused = λ file b e k w below small differs.
          rw (damage_refused file b e k w below small differs) (refl, refl);
    }

pub refusals_shown : Refusals
refusals_shown =
    record {
      read_gives = λ file. given_exactly (request_file_rows file);
      write_gives = λ size r buffer. given_exactly (write_rows size r buffer);
      read_fault = read_fault;
      write_fault = write_fault;
      read_first = read_first;
      write_first = write_first;
      read_none = read_none;
      write_none = write_none;
      read_order = read_rows_in_order;
      write_order = write_rows_in_order;
      write_accepts = λ size r buffer. (room_of_accepted size r buffer, λ (w, room). write_accepts size r buffer w room);
      refused_read = refused_read_is_zero;
      refused_write = refused_write_keeps;
      rest_kept = write_keeps_rest;
    }
