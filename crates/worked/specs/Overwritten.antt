-- Tables in which some numbers are exchanged for others.
use Rattle.std.specs.Prelude.{ℕ, zero, suc, ◌+◌, List, set}

-- A table in which k numbers from `from` on are those of a rule, and all others are as they were.
unfoldable pub overwritten : ℕ → ℕ → (ℕ → ℕ) → List ℕ → List ℕ
overwritten from zero f t = t
overwritten from (suc k) f t = set (overwritten from k f t) (from + k) (f (from + k))
