-- How a walk goes over the cells of a limit: from the first of them to the end in equal steps.
use Rattle.std.specs.Prelude.{ℕ, ◌+◌, ◌-◌, ◌*◌, ◌/◌, ◌%◌, Bool, cond, ◌||◌, eqb, ltb}
use Rattle.planner.specs.declared.shut.Area.{Area}

-- The first cell of limit l.
unfoldable pub first_of : ℕ → ℕ
first_of l = cond (ltb l 8) (8 * l) (cond (ltb l 16) (l - 8) (cond (ltb l 18) (32 * (l - 16)) (4 * (l - 18))))

-- The cell behind its last row.
unfoldable pub end_of : ℕ → ℕ
end_of l = cond (ltb l 8) (8 * l + 8) (cond (ltb l 16) 64 (cond (ltb l 18) (32 * (l - 16) + 32) 64))

-- Down a column for an output, and from cell to cell for the others.
unfoldable pub step_of : ℕ → ℕ
step_of l = cond (ltb l 8) 1 (cond (ltb l 16) 8 1)

-- The walk over an output card comes past cells of the other one, too; every other walk comes to the limit's own cells only.
abbrev pub on_card : ℕ → ℕ → Bool
on_card l c = ltb l 18 || eqb (18 + c % 8 / 4) l

-- The three numbers together, as the walk takes them.
abbrev pub area_of : ℕ → Area
area_of l = record { first = first_of l; end = end_of l; step = step_of l }
