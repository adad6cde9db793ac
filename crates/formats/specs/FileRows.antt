-- The rows of document 01's table 'Refusal numbers' that speak of bytes: 1 to 3, the spare words of 7, and 16. Every file
-- is made of blocks, so each row is said once for all of them.
use Rattle.std.specs.Prelude.{ℕ, ◌+◌, ◌*◌, not, List, eqb, ltb, length, get_or}
use Rattle.words.specs.Check.{sealed, start_of, word_in}
use Rattle.switch.specs.Rows.{Row}
use Rattle.switch.specs.declared.verdict.Cause.TheVariants.{Length, Check, Kind, NotZero, Room}

-- Row 1: a file of this kind has this many bytes. Its only candidate is the file.
abbrev pub length_row : ℕ → List ℕ → Row
length_row size file = record { cause = Length; size = 1; offends = λ i. not (eqb (length file) size); place = λ i. 0 }

-- Row 2: each block has to hold its check, in the last of its words.
abbrev pub check_row : ℕ → List ℕ → Row
check_row blocks file =
    record {
      cause = Check;
      size = blocks;
      offends = λ b. not (sealed (start_of b) (word_in file b));
      place = λ b. 128 * b + 127;
    }

-- Row 3: each block has to be of its kind, which its first word says. A file is told by the kinds of its blocks.
abbrev pub kind_row : List ℕ → List ℕ → Row
kind_row kinds file =
    record {
      cause = Kind;
      size = length kinds;
      offends = λ b. not (eqb (word_in file b 0) (get_or kinds b 0));
      place = λ b. 128 * b;
    }

-- Row 7, for the spare words of a block: `count` words from word `from` on have to be 0.
abbrev pub spare_row : ℕ → ℕ → ℕ → List ℕ → Row
spare_row block from count file =
    record {
      cause = NotZero;
      size = count;
      offends = λ i. ltb 0 (word_in file block (from + i));
      place = λ i. 128 * block + (from + i);
    }

-- Row 16: the file to write has this many bytes, and the buffer has to have room for them.
abbrev pub room_row : ℕ → List ℕ → Row
room_row size buffer =
    record { cause = Room; size = 1; offends = λ i. ltb (length buffer) size; place = λ i. 0 }
