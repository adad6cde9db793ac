-- A table that is filled from the front by a rule, one store a turn, told by its cells: so a loop in a loop need not know what
-- the table held before it.
use Prim.Native.Nat.{ℕ, ◌+◌, ◌<◌}
use mathlib.Core.Path.{◌≡◌, sym, ◌∙◌, subst}
use mathlib.Core.List.{List}
use mathlib.Core.Logic.{◌⊎◌, inl, inr}
use native.Mathlib.Nat.{not-suc-le-zero}
use native.Mathlib.Omega.{arith}
use lib.ListN.{length, set, length-set}
use lib.Seq.{get_or-set_same, get_or-set_other}
use Rattle.laws.specs.Lists.{cells, list}
use Rattle.laws.proofs.Lists.{list_is}
use Rattle.laws.proofs.Search.{eq_or_not}

-- The first n of the table's numbers are the rule's.
pub record Filled (size : ℕ) (f : ℕ → ℕ) (n : ℕ) (table : List ℕ) : Type 0 where
  pub long : length table ≡ size
  pub each : (k : ℕ) → k < n → cells table k ≡ f k

pub filled_none : {size : ℕ} (f : ℕ → ℕ) (table : List ℕ) → length table ≡ size → Filled size f 0 table
filled_none f table long = record { long = long; each = λ k h. absurd (not-suc-le-zero h) }

pub filled_next : {size n x : ℕ} {f : ℕ → ℕ} {table : List ℕ} → Filled size f n table → n < size → x ≡ f n
    → Filled size f (n + 1) (set table n x)
filled_next {size} {n} {x} {f} {table} filled low e =
    record { long = simp length-set filled.long; each = λ k h. here k h (eq_or_not k n) }
  where
    here : (k : ℕ) → k < n + 1 → (k ≡ n) ⊎ (k ≡ n → ⊥) → cells (set table n x) k ≡ f k
    here k h (inl same) = rw same (get_or-set_same table n x 0 (omega (arith, filled.long)) ∙ e)
    here k h (inr other) = get_or-set_other table n k x 0 other ∙ filled.each k (omega arith)

pub filled_as : {size n m : ℕ} {f : ℕ → ℕ} {table : List ℕ} → Filled size f n table → n ≡ m → Filled size f m table
filled_as {size} {n} {m} {f} {table} filled e = subst (λ (k : ℕ). Filled size f k table) e filled

-- Stands because docs/PORT-NAMES.md names it; no function cites it today.
pub filled_all : {size n : ℕ} {f : ℕ → ℕ} {table : List ℕ} → Filled size f n table → n ≡ size → table ≡ list size f
filled_all {size} {n} {f} {table} filled e =
    let whole = filled_as filled e in sym (list_is size f table whole.long (λ c h. sym (whole.each c h)))
