-- What the walk has done to the cells before this one.
use Rattle.laws.specs.Lists.{cells}
use Rattle.planner.specs.Tables.{Marked, Taken, Added}
use Rattle.planner.specs.Engine.{start_stage, start_weight, Unheld}
use Rattle.planner.proofs.tables.Tables.start.Given as goal

abbrev pub invariant-loop-cell : goal.invariant-loop-cell
invariant-loop-cell l =
    record {
      unheld : Unheld l.cell l.held l.flows.minima.now;
      marked : Marked l.cell (start_stage l.flows.demands.now l.flows.minima.now) l.initial.self.stages l.self.stages;
      taken : Taken l.flows.cards l.cell (cells l.flows.minima.now) l.initial.self.left l.self.left;
      added : Added l.flows.cards l.cell (start_weight l.flows.demands.now l.flows.minima.now l.flows.weights.now) l.self.parts;
    }
