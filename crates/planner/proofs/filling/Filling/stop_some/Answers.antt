-- `stop_some` meets its contract: where the walk is spared, it would have changed nothing.
use Rattle.std.proofs.Common.{◌≡◌, ℕ, ◌<◌, false, sym, rules}
use Rattle.fairness.proofs.Some.{some_none}
use Rattle.planner.specs.Engine.{met_at}
use Rattle.planner.proofs.Meeting.{none_met, swept_unmet_here}
use Rattle.planner.proofs.filling.Filling.stop_some.Goals as goal
use Rattle.planner.proofs.filling.Filling.stop_some.Goals.{Then-level-flows}

none : (c : Then-level-flows) (i : ℕ) → i < 64
    → met_at c.args.self.now.base c.args.level.high c.args.level.parts c.args.flows.now.demands.now c.args.flows.now.weights.now
    c.args.self.now.tables.stages i
    ≡ false
none c =
    none_met c.args.self.now.base c.args.level.high c.args.level.parts c.args.flows.now.heaviest c.args.self.now.least
    c.args.flows.now.demands.now c.args.flows.now.weights.now c.args.self.now.tables.stages c.requires.0
    c.args.flows.now.none_heavier c.if-level-flows.true

pub returns-then-level-flows-clause-any_value : goal.returns-then-level-flows-clause-any_value
returns-then-level-flows-clause-any_value c =
    sym (some_none 64 _ (none (goal.at.returns-then-level-flows-clause-any_value c).Then-level-flows))

pub returns-then-level-flows-clause-swept : goal.returns-then-level-flows-clause-swept
returns-then-level-flows-clause-swept c =
    swept_unmet_here c.args.flows.now c.args.self.now.base c.args.level c.args.self.now.tables
    (none (goal.at.returns-then-level-flows-clause-swept c).Then-level-flows) (search rules) c.requires.1.0.long c.requires.1.1.long
