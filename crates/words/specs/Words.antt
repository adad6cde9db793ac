-- Words of 32 bits in a row of bytes, the least significant byte first: the first sentence of document 01's section
-- 'Blocks'. A byte is a number below 256, and words are counted from 0.
use Rattle.std.specs.Prelude.{ℕ, zero, suc, ◌+◌, ◌*◌, ◌/◌, ◌%◌, ◌<◌, Bool, cond, List, [], ◌∷◌, ◌++◌, ltb, length, get_or}
use Rattle.std.proofs.lemmas.List.Edits.{sets}

-- What makes a list of numbers a row of bytes.
abbrev pub Bytes : List ℕ → Type 0
Bytes file = (i : ℕ) → get_or file i 0 < 256

-- The word that four bytes make, and the four bytes of a word.
abbrev pub word_of : ℕ → ℕ → ℕ → ℕ → ℕ
word_of a b c d = a + 256 * b + 65_536 * c + 16_777_216 * d

abbrev pub bytes_of : ℕ → List ℕ
bytes_of w = w % 256 ∷ w / 256 % 256 ∷ w / 65_536 % 256 ∷ w / 16_777_216 % 256 ∷ []

-- Word i lies within the bytes. Fewer than four bytes at the end are no word.
abbrev pub whole : List ℕ → ℕ → Bool
whole file i = ltb i (length file / 4)

-- Word i of these bytes, 0 past the last.
unfoldable pub word_at : List ℕ → ℕ → ℕ
word_at file i =
    cond (whole file i)
    (word_of (get_or file (4 * i) 0) (get_or file (4 * i + 1) 0) (get_or file (4 * i + 2) 0) (get_or file (4 * i + 3) 0)) 0

-- The bytes with word i replaced by w; past the last word nothing is.
unfoldable pub with_word : List ℕ → ℕ → ℕ → List ℕ
with_word file i w = cond (whole file i) (sets file (4 * i) (bytes_of w)) file

-- The bytes of k words, w 0 up to w (k - 1), one after another.
unfoldable pub laid : (ℕ → ℕ) → ℕ → List ℕ
laid w zero = []
laid w (suc k) = laid w k ++ bytes_of (w k)
