-- Fixed texts as bytes.
use Rattle.std.specs.Prelude.{ℕ}
use Prim.Native.Char.{code}
use Prim.Native.String.{String, [], ◌∷◌}
use mathlib.Core.List as L

-- The bytes of a text in ASCII: each character is its code.
abbrev pub ascii : String → L.List ℕ
ascii [] = L.[]
ascii (c ∷ text) = L.◌∷◌ (code c) (ascii text)
