-- The walk has come to a cell of the limit, or to its end.
use Rattle.std.proofs.Common.{◌-◌}
use Rattle.planner.proofs.Halting.{Walked}
use Rattle.planner.proofs.tables.Tables.halt_all.Given as goal

abbrev pub invariant-loop-cell : goal.invariant-loop-cell
invariant-loop-cell l = Walked l.flows.cards l.flows.weights.now l.limit l.level.high l.initial.self l.cell l.self

abbrev pub decreases-loop-cell : goal.decreases-loop-cell
decreases-loop-cell l = 64 - l.cell
