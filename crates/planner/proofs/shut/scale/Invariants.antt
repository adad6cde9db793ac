-- The entries before this one are multiplied, and the others are as they were.
use Rattle.planner.proofs.Walks.{Multiplied}
use Rattle.planner.proofs.shut.scale.Given as goal

abbrev pub invariant-loop-entry : goal.invariant-loop-entry
invariant-loop-entry l = Multiplied l.entry-index l.k l.initial.entry-items l.entry-items
