-- The room of a text that is being written: as many bytes as the longest text has.
use Rattle.std.specs.Prelude.{◌+◌, ◌≤◌, ℕ, List, length}

-- Behind what is written there is room for a piece.
abbrev pub HasRoom : List ℕ → List ℕ → Type 0
HasRoom written piece = length written + length piece ≤ 2144
