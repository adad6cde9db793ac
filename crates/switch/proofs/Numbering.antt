-- The refusal numbers are the table's, and no two causes share one.
use Prim.Native.Nat.{ℕ, ◌-◌}
use mathlib.Core.Path.{◌≡◌, refl, sym, ◌∙◌, ap}
use mathlib.Core.List.{List, [], ◌∷◌, map}
use lib.ListN.{get_or}
use Rattle.switch.specs.Given.{numbers_of}
use Rattle.switch.specs.Numbering.{number_of}
use Rattle.switch.specs.RequestRows.{request_rows}
use Rattle.switch.specs.declared.request.Request.{Request}
use Rattle.switch.specs.declared.verdict.Cause.{Cause}

-- The rows of the table, from its first to its last.
unfoldable pub table : List Cause
table =
    Cause.Length ∷ Cause.Check ∷ Cause.Kind ∷ Cause.Ports ∷ Cause.Capacity ∷ Cause.Demand
    ∷ Cause.NotZero ∷ Cause.Base ∷ Cause.BaseDiffers ∷ Cause.ReasonRange ∷ Cause.AboveDemand
    ∷ Cause.InputOver ∷ Cause.OutputOver ∷ Cause.NoBottleneck ∷ Cause.WrongReason ∷ Cause.Room ∷ []

pub numbers_are_the_tables : map number_of table
    ≡ 1 ∷ 2 ∷ 3 ∷ 4 ∷ 5 ∷ 6 ∷ 7 ∷ 8 ∷ 9 ∷ 10 ∷ 11 ∷ 12 ∷ 13 ∷ 14 ∷ 15 ∷ 16 ∷ []
unfolding table
numbers_are_the_tables = refl

-- The row that a number counts to, so that a number gives its cause back.
row_at : ℕ → Cause
row_at k = get_or table (k - 1) Cause.Room

row_at_number_of : (c : Cause) → row_at (number_of c) ≡ c
unfolding row_at table
row_at_number_of Cause.Length = refl
row_at_number_of Cause.Check = refl
row_at_number_of Cause.Kind = refl
row_at_number_of Cause.Ports = refl
row_at_number_of Cause.Capacity = refl
row_at_number_of Cause.Demand = refl
row_at_number_of Cause.NotZero = refl
row_at_number_of Cause.Base = refl
row_at_number_of Cause.BaseDiffers = refl
row_at_number_of Cause.ReasonRange = refl
row_at_number_of Cause.AboveDemand = refl
row_at_number_of Cause.InputOver = refl
row_at_number_of Cause.OutputOver = refl
row_at_number_of Cause.NoBottleneck = refl
row_at_number_of Cause.WrongReason = refl
row_at_number_of Cause.Room = refl

pub number_injective : (a b : Cause) → number_of a ≡ number_of b → a ≡ b
number_injective a b e = sym (row_at_number_of a) ∙ ap row_at e ∙ row_at_number_of b

-- The rows of a request are heard in the table's order.
pub request_rows_in_order : (r : Request) → numbers_of (request_rows r) ≡ 4 ∷ 5 ∷ 6 ∷ 7 ∷ []
request_rows_in_order r = refl
