-- The two loops are the search over the cells, input by input.
use Rattle.std.proofs.Common.{◌+◌, ◌*◌}
use Rattle.switch.proofs.Search.{Passed}
use Rattle.checker.specs.Flows.{row_of_reasons}
use Rattle.checker.proofs.rates.Flows.reasons_row.Given as goal

abbrev pub invariant-loop-v : goal.invariant-loop-v
invariant-loop-v l =
    Passed (row_of_reasons l.self) (8 * l.u + l.v)

abbrev pub invariant-loop-u : goal.invariant-loop-u
invariant-loop-u l =
    Passed (row_of_reasons l.self) (8 * l.u)
