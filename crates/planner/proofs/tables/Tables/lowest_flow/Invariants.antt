-- `lowest_flow` meets its contract: the loop is the search.
use Rattle.std.proofs.Common.{◌≡◌}
use Rattle.fairness.specs.Filling.{lowest}
use Rattle.planner.specs.Engine.{next_of, flow_event}
use Rattle.planner.proofs.tables.Tables.lowest_flow.Given as goal

abbrev pub invariant-loop-cell : goal.invariant-loop-cell
invariant-loop-cell l =
    next_of l.best ≡ lowest l.cell (flow_event l.base l.flows.minima.now l.flows.weights.now l.self.stages) (next_of l.initial.best)
