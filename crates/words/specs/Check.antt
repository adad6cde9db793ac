-- The check of a block: the rest of document 01's section 'Blocks', up to the request file.
use Rattle.std.specs.Prelude.{ℕ, zero, suc, ◌+◌, ◌*◌, ◌/◌, ◌%◌, ◌≡◌, Bool, List, ◌++◌, eqb}
use Rattle.words.specs.Words.{word_at, with_word, bytes_of, laid}

-- A number of 32 bits rotated left by one: its highest bit becomes its lowest.
abbrev pub rotated : ℕ → ℕ
rotated x = x % 2_147_483_648 * 2 + x / 2_147_483_648

-- One word taken into the sum: rotate, add, and drop the carry out of 32 bits.
abbrev pub taken : ℕ → ℕ → ℕ
taken sum word = (rotated sum + word) % 4_294_967_296

-- The running sum from a start over the first k words.
unfoldable pub running : ℕ → (ℕ → ℕ) → ℕ → ℕ
running start word zero = start
running start word (suc k) = taken (running start word k) (word k)

-- A block's words 0 to 126 are its content, and their running sum is its check.
abbrev pub check : ℕ → (ℕ → ℕ) → ℕ
check start word = running start word 127

-- A block is sealed if word 127 is its check.
abbrev pub sealed : ℕ → (ℕ → ℕ) → Bool
sealed start word = eqb (word 127) (check start word)

-- What the last sentence of that paragraph calls a change confined to one word: word k is another, and the rest are as
-- they were.
pub record OneWord (v w : ℕ → ℕ) (k : ℕ) : Type 0 where
  pub differs : v k ≡ w k → ⊥
  pub same : (i : ℕ) → (i ≡ k → ⊥) → v i ≡ w i

-- Where the sum starts: the block's number in its file plus 1, as a number of 32 bits.
abbrev pub start_of : ℕ → ℕ
start_of block = (block + 1) % 4_294_967_296

-- Word i of a file's block: each block has 128 words.
abbrev pub word_in : List ℕ → ℕ → ℕ → ℕ
word_in file block i = word_at file (128 * block + i)

-- The file with one of its blocks sealed.
abbrev pub sealed_in : ℕ → List ℕ → ℕ → List ℕ
sealed_in start file block = with_word file (128 * block + 127) (check start (word_in file block))

-- The 512 bytes of a sealed block with this content.
abbrev pub block_of : ℕ → (ℕ → ℕ) → List ℕ
block_of start word = laid word 127 ++ bytes_of (check start word)
