-- The loop searches the row's candidates input by input.
use Rattle.std.proofs.Common.{◌*◌}
use Rattle.switch.specs.Tables.{cells_over}
use Rattle.switch.proofs.Search.{Passed}
use Rattle.requests.proofs.tables.cells_over.Given as goal

abbrev pub invariant-loop-u : goal.invariant-loop-u
invariant-loop-u l =
    let r = l.request in Passed (cells_over l.bound.cause 19 l.bound.used r.m r.n l.bound.most r.demands) (8 * l.u)
