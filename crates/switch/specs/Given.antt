-- When a refusal is given, said without computing anything: which row of a list applies, and where. Document 01 says it
-- above its table 'Refusal numbers'.
use Rattle.std.specs.Prelude.{ℕ, ◌≤◌, ◌<◌, ◌⊎◌, ◌≡◌, true, false}
use mathlib.Core.List.{List, ◌∷◌, ◌++◌, map, Memᴰ}
use Rattle.switch.specs.Numbering.{number_of}
use Rattle.switch.specs.Rows.{Row}
use Rattle.switch.specs.declared.verdict.Verdict.{Verdict}
use Rattle.switch.specs.declared.verdict.Verdict.TheVariants.{Accepted, Refused}

-- The numbers of these rows, in the order in which they are heard.
abbrev pub numbers_of : List Row → List ℕ
numbers_of = map (λ (row : Row). number_of row.cause)

-- The row applies nowhere: no candidate of it offends.
abbrev pub Silent : Row → Type 0
Silent row = (i : ℕ) → i < row.size → row.offends i ≡ false

-- None of these rows has an offender.
abbrev pub AllSilent : List Row → Type 0
AllSilent rows = (row : Row) → Memᴰ row rows → Silent row

-- Candidate i is the first that offends, in the order in which the row counts its candidates.
pub record First (row : Row) (i : ℕ) : Type 0 where
  pub below : i < row.size
  pub here : row.offends i ≡ true
  pub earlier : (k : ℕ) → k < i → row.offends k ≡ false

-- Of these rows this one is heard, and its place is p: the rows before it apply nowhere, and its first offender is at p.
pub record Applies (rows : List Row) (row : Row) (p : ℕ) : Type 0 where
  pub before : List Row
  pub after : List Row
  pub split : rows ≡ before ++ (row ∷ after)
  pub silent : AllSilent before
  pub offender : ℕ
  pub first : First row offender
  pub place : p ≡ row.place offender

-- The verdict refuses with number k and place p.
abbrev pub Gives : Verdict → ℕ → ℕ → Type 0
Gives Accepted k p = ⊥
Gives (Refused x) k p = (number_of x.cause ≡ k) × (x.place ≡ p)

-- Number k at place p comes no later than number k' at place p': the table's order first, and then the place.
abbrev pub NoLater : ℕ → ℕ → ℕ → ℕ → Type 0
NoLater k p k' p' = (k < k') ⊎ ((k ≡ k') × (p ≤ p'))
