-- Every turn is a round of the filling. The invariant speaks of whatever capacities the filling began with, since the loop does
-- not hold them.
use Rattle.std.proofs.Common.{List, [], ℕ}
use Rattle.fairness.specs.Filling.{work}
use Rattle.planner.specs.Engine.{sharing, state_at, Modest, Engaged}
use Rattle.planner.proofs.filling.Filling.turns.Given as goal

abbrev pub invariant-turns : goal.invariant-turns
invariant-turns l =
    (capacities : List ℕ) → Modest (sharing l.flows capacities) l.flows.heaviest → Engaged l.flows capacities l.initial.self
    → Engaged l.flows capacities l.self

-- There is less to be done after a turn than before it.
abbrev pub decreases-turns : goal.decreases-turns
decreases-turns l = work (sharing l.flows []) (state_at (sharing l.flows []) l.self)
