-- `change` meets its contract: the flow's limits are changed one after the other.
use Rattle.planner.proofs.Lowering.{at_input, at_output, at_input_card, at_output_card}
use Rattle.planner.proofs.Lowering.{changed_ports, changed_cards}
use Rattle.planner.proofs.flows.Flows.change.Goals as goal

pub to-requires : goal.to-requires
to-requires g c =
    at_input (goal.F-post g c.args.to) c.requires.0 c.requires.1 c.input_limit-input.ensures

pub to-requires-2 : goal.to-requires-2
to-requires-2 g c =
    at_output (goal.F-post g c.args.to) c.requires.0 c.requires.1 c.input_limit-input.ensures
    c.to.result c.to.ensures c.output_limit-output.ensures

pub to-requires-then-self : goal.to-requires-then-self
to-requires-then-self g c =
    at_input_card (goal.F-post g c.args.to) c.requires.0 c.requires.1 c.input_limit-input.ensures
    c.to.result c.to.ensures c.output_limit-output.ensures c.to-2.result c.to-2.ensures c.if-self.true

pub to-requires-then-self-2 : goal.to-requires-then-self-2
to-requires-then-self-2 g c =
    at_output_card (goal.F-post g c.args.to) c.requires.0 c.requires.1 c.input_limit-input.ensures
    c.to.result c.to.ensures c.output_limit-output.ensures c.to-2.result c.to-2.ensures c.if-self.true c.to-then-self.result c.to-then-self.ensures

pub returns-then-self : goal.returns-then-self
returns-then-self g c =
    changed_cards (goal.F-post g c.args.to) c.requires.0 c.requires.1 c.input_limit-input.ensures
    c.to.result c.to.ensures c.output_limit-output.ensures c.to-2.result c.to-2.ensures c.if-self.true c.to-then-self.result c.to-then-self.ensures
    c.to-then-self-2.result c.to-then-self-2.ensures

pub returns : goal.returns
returns g c =
    changed_ports (goal.F-post g c.args.to) c.requires.0 c.requires.1 c.input_limit-input.ensures
    c.to.result c.to.ensures c.output_limit-output.ensures c.to-2.result c.to-2.ensures c.if-self.false
