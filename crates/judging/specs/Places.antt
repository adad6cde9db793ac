-- Where the numbers of a plan stand in its file: document 01's section 'Blocks', its paragraph on the plan file. Words and
-- bytes count from the beginning of the file, as places do.
use Rattle.std.specs.Prelude.{ℕ, ◌+◌, ◌*◌, ◌/◌, ◌%◌}

-- Inputs 0 to 3, and with them cells 0 to 31, are in block 1, and the others in block 2.
abbrev pub block_of_cell : ℕ → ℕ
block_of_cell c = 1 + c / 32

-- The cell's position among the 32 of its block.
abbrev pub position_of : ℕ → ℕ
position_of c = c % 32

-- The low word of a cell's numerator: from word 3 of the block on, two words for each. The high one is next to it.
abbrev pub low_word : ℕ → ℕ
low_word c = 128 * block_of_cell c + (3 + 2 * position_of c)

abbrev pub high_word : ℕ → ℕ
high_word c = low_word c + 1

-- The word in which a cell's reason is one of four bytes: words 67 to 74 of the block.
abbrev pub reason_word : ℕ → ℕ
reason_word c = 128 * block_of_cell c + (67 + position_of c / 4)

-- And the byte.
abbrev pub reason_byte : ℕ → ℕ
reason_byte c = 512 * block_of_cell c + (268 + position_of c)

-- A number of 64 bits in two words.
abbrev pub low_of : ℕ → ℕ
low_of x = x % 4_294_967_296

abbrev pub high_of : ℕ → ℕ
high_of x = x / 4_294_967_296
