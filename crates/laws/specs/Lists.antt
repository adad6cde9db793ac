-- Lists of numbers: read by an index, made by a rule.
use Rattle.std.specs.Prelude.{ℕ, zero, suc, List, [], ◌∷◌, get_or}

-- The numbers of a list, 0 past its end.
abbrev pub cells : List ℕ → ℕ → ℕ
cells xs i = get_or xs i 0

-- The list of f i, f (i + 1), .., n of them.
unfoldable pub list_from : ℕ → ℕ → (ℕ → ℕ) → List ℕ
list_from zero i f = []
list_from (suc n) i f = f i ∷ list_from n (suc i) f

-- The list of f 0 .. f (n - 1).
unfoldable pub list : ℕ → (ℕ → ℕ) → List ℕ
list n f = list_from n 0 f
