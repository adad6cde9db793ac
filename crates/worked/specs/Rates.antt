-- The rates that a base and a table of numerators stand for.
use Rattle.std.specs.Prelude.{ℕ, List, get_or}
use Rattle.switch.specs.Rates.{Rates}

-- Numerators xs over base b; a cell past the table's end has rate 0.
abbrev pub rates_over : ℕ → List ℕ → Rates
rates_over b xs = record { base = b; numerator = λ c. get_or xs c 0 }
