-- How large the engine's numbers can get. Every sum and every product that it makes of them fits 64 bits.
use Rattle.std.specs.Prelude.{ℕ}

-- A capacity, a demand or a minimum: document 01's limit, 2^24.
abbrev pub most_asked : ℕ
most_asked = 16_777_216

-- The base, a product of divisors: 2^34, which is as much as any mode needs.
abbrev pub most_base : ℕ
most_base = 17_179_869_184

-- A level, or what is left of a limit, over the base: 2^58.
abbrev pub most_high : ℕ
most_high = 288_230_376_151_711_744

-- The weights of the flows through one limit, taken together.
abbrev pub most_parts : ℕ
most_parts = 32
