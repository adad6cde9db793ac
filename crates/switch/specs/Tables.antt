-- The parts of rows 5 to 7 as a program walks them: one side's ports, or the cells, with one limit for those that are
-- used or for those that are not. The rows of a request are made of such parts.
use Rattle.std.specs.Prelude.{ℕ, ◌+◌, ◌*◌, ◌≤◌, ◌<◌, min, Bool, true, false, cond, not, ◌&&◌, List, ltb, get_or, Option}
use Rattle.std.specs.declared.option.Option.TheVariants.{Some, None}
use Rattle.switch.specs.Cells.{input_of, output_of}
use Rattle.switch.specs.Rows.{Row}
use Rattle.switch.specs.RequestRows.{above}
use Rattle.switch.specs.declared.verdict.Cause.{Cause}
use Rattle.switch.specs.declared.request.Request.{Request}

-- The test itself, or its opposite.
abbrev pub sided : Bool → Bool → Bool
sided true b = b
sided false b = not b

-- A table of so many numbers in words from `from` on: where a number counts, because it is used or because it is not, it
-- may not be above `most`.
abbrev pub table_over : Cause → ℕ → ℕ → (ℕ → Bool) → Bool → ℕ → List ℕ → Row
table_over cause from size is_used used most xs =
    record {
      cause = cause;
      size = size;
      offends = λ i. above (sided used (is_used i)) most (get_or xs i 0);
      place = λ i. from + i;
    }

-- Eight ports, of which the first `count` are used.
abbrev pub ports_over : Cause → ℕ → Bool → ℕ → ℕ → List ℕ → Row
ports_over cause from used count = table_over cause from 8 (λ i. ltb i count) used

-- The cell is used in a switch of m inputs and n outputs.
abbrev pub used_at : ℕ → ℕ → ℕ → Bool
used_at m n c = ltb c 64 && (ltb (input_of c).0 m && ltb (output_of c).0 n)

-- The end of the used cells of input u, which are the first of its eight.
abbrev pub used_end : ℕ → ℕ → ℕ → ℕ
used_end m n u = 8 * u + cond (ltb u m) (min n 8) 0

-- Of the numbers from `first` on and before `last`, c is the first that is above `most`; 64 or more if none is.
pub record FirstAbove (most first last : ℕ) (xs : List ℕ) (c : ℕ) : Type 0 where
  pub earlier : (k : ℕ) → first ≤ k → k < last → k < c → get_or xs k 0 ≤ most
  pub here : c < 64 → (first ≤ c) × (c < last) × (most < get_or xs c 0)

-- What a search for it answers: the first that is above, or nothing if none is.
abbrev pub FoundAbove : ℕ → ℕ → ℕ → List ℕ → Option ℕ → Type 0
FoundAbove most first last xs None = (k : ℕ) → first ≤ k → k < last → get_or xs k 0 ≤ most
FoundAbove most first last xs (Some c) =
    (first ≤ c) × (c < last) × (most < get_or xs c 0) × ((k : ℕ) → first ≤ k → k < c → get_or xs k 0 ≤ most)

-- The 64 cells.
abbrev pub cells_over : Cause → ℕ → Bool → ℕ → ℕ → ℕ → List ℕ → Row
cells_over cause from used m n = table_over cause from 64 (used_at m n) used

-- The request of these numbers: what a walk that is lent only some of the tables says, it says of such a request.
abbrev pub request_of : ℕ → ℕ → List ℕ → List ℕ → List ℕ → Request
request_of m n inputs outputs demands = record { m = m; n = n; inputs = inputs; outputs = outputs; demands = demands }
