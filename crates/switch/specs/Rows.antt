-- A row of the refusal table, as a test over its candidates, and the verdict that a list of rows gives.
use Rattle.std.specs.Prelude.{ℕ, zero, suc, ◌+◌, ◌-◌, Bool, true, false, cond, List, [], ◌∷◌, ltb}
use Rattle.switch.specs.declared.verdict.Cause.{Cause}
use Rattle.switch.specs.declared.verdict.Refusal.{Refusal}
use Rattle.switch.specs.declared.verdict.Verdict.{Verdict}
use Rattle.switch.specs.declared.verdict.Verdict.TheVariants.{Accepted, Refused}

-- A row of document 01's table 'Refusal numbers'. Whatever it could apply to is a candidate, and these are counted
-- from 0 in file order or cell order; the row says which of them offend, and where each stands.
pub record Row : Type 0 where
  pub cause : Cause
  pub size : ℕ
  pub offends : ℕ → Bool
  pub place : ℕ → ℕ

-- A row in two parts: the candidates of the first, and after them those of the second.
abbrev pub joined : Row → Row → Row
joined a b =
    record {
      cause = a.cause;
      size = a.size + b.size;
      offends = λ i. cond (ltb i a.size) (a.offends i) (b.offends (i - a.size));
      place = λ i. cond (ltb i a.size) (a.place i) (b.place (i - a.size));
    }

-- What a search finds: a candidate, or nothing.
pub data Found : Type 0 where
  at : ℕ → Found
  nothing : Found

-- The first of the k numbers from i on that passes the test. It looks no further, so that it computes.
unfoldable pub first_from : ℕ → ℕ → (ℕ → Bool) → Found
first_from zero i test = nothing
first_from (suc k) i test = elim (test i) [ true ↦ at i | false ↦ first_from k (suc i) test ]

-- A row's first offender.
abbrev pub first_of : Row → Found
first_of row = first_from row.size 0 row.offends

-- A verdict that refuses, by a refusal; and for a cause and at a place.
abbrev pub refused_by : Refusal → Verdict
refused_by r = Refused r

abbrev pub refusal : Cause → ℕ → Verdict
refusal c p = Refused (record { cause = c; place = p })

-- What one row says by itself: a refusal at the place of its first offender, or acceptance if it has none.
abbrev pub verdict_at : Row → Found → Verdict
verdict_at row (at i) = refusal row.cause (row.place i)
verdict_at row nothing = Accepted

unfoldable pub row_verdict : Row → Verdict
row_verdict row = verdict_at row (first_of row)

-- The first of two verdicts, unless it accepts: then the second.
abbrev pub or_else : Verdict → Verdict → Verdict
or_else Accepted v = v
or_else (Refused x) v = Refused x

-- The table's order: a row is heard only if all rows before it accept.
unfoldable pub verdict_of : List Row → Verdict
verdict_of [] = Accepted
verdict_of (row ∷ rest) = or_else (row_verdict row) (verdict_of rest)

-- What a call hands back or leaves behind: one thing if it accepts, another if it refuses.
abbrev pub if_accepted : {A : Type 0} → Verdict → A → A → A
if_accepted Accepted x y = x
if_accepted (Refused r) x y = y
