-- `capacity_row` meets its contract: the row's two parts are the two sides' tables.
use Rattle.std.proofs.Common.{◌∙◌, refl}
use Rattle.switch.specs.RequestRows.{inputs_above, outputs_above}
use Rattle.switch.proofs.Rows.{joined_left, joined_right}
use Rattle.requests.proofs.check.capacity_row.Goals as goal

pub returns-in_err-ports_over : goal.returns-in_err-ports_over
returns-in_err-ports_over c = let r = c.args.request.now in c.from_residual.ensures ∙ joined_left (inputs_above r) (outputs_above r) refl c.ports_over.ensures c.in_err-ports_over.ensures

pub returns : goal.returns
returns c = let r = c.args.request.now in joined_right (inputs_above r) (outputs_above r) refl c.ports_over.ensures c.in_ok-ports_over.ensures c.ports_over-2.ensures
