-- What the walk has done to the cells before this one.
use Rattle.std.proofs.Common.{◌≡◌}
use Rattle.fairness.specs.Filling.{some}
use Rattle.planner.specs.Engine.{met_at, Light, MetTo}
use Rattle.planner.proofs.tables.Tables.stop_met.Given as goal

abbrev pub invariant-loop-cell : goal.invariant-loop-cell
invariant-loop-cell l =
    record {
      any : l.met.any
          ≡ some l.cell
          (met_at l.base l.level.high l.level.parts l.flows.demands.now l.flows.weights.now l.initial.self.stages);
      light : Light l.cell l.met.least l.flows.demands.now l.self.stages;
      swept : MetTo l.flows l.base l.level l.cell l.initial.self l.self;
    }
