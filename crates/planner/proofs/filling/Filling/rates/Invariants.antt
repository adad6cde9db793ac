-- The numerators up to here are the rates.
use Rattle.planner.specs.Tables.{Marked}
use Rattle.planner.specs.Engine.{standing}
use Rattle.planner.specs.Limits.{problem}
use Rattle.std.proofs.Common.{false, []}
use Rattle.planner.proofs.filling.Filling.rates.Given as goal

abbrev pub invariant-loop-cell : goal.invariant-loop-cell
invariant-loop-cell l =
    Marked l.cell
    (standing (problem false [] l.flows.demands.now l.flows.minima.now l.flows.weights.now) l.self.base l.self.tables.stages l.self.levels)
    l.initial.numerators l.numerators
