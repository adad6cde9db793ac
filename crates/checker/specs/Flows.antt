-- The rows of a plan's flows, from what is worked out of them.
use Rattle.switch.specs.Rows.{Row}
use Rattle.worked.specs.Worked.{free_row, reasons_row}
use Rattle.checker.specs.declared.rates.Flows.{Flows}

-- Row 14.
abbrev pub row_of_free : Flows → Row
row_of_free f =
    free_row f.request.now.m f.request.now.n f.asked.now f.plan.now.numerators f.entering.now f.leaving.now

-- Row 15.
abbrev pub row_of_reasons : Flows → Row
row_of_reasons f = reasons_row f.asked.now f.plan.now.numerators f.entering.now f.plan.now.reasons
