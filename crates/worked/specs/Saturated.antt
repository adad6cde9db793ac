-- Numbers of 64 bits that stop at the largest, and counts of ports that stop at eight.
use Rattle.std.specs.Prelude.{ℕ, min}

-- The largest number of 64 bits.
abbrev pub largest : ℕ
largest = 18_446_744_073_709_551_615

-- A number, or the largest of 64 bits if it is larger.
abbrev pub capped : ℕ → ℕ
capped x = min x largest

-- How many ports a side has, if it is said to have n: no switch has more than eight.
abbrev pub ports : ℕ → ℕ
ports n = min n 8
