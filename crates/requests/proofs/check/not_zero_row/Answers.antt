-- `not_zero_row` meets its contract: the row's three parts are the three tables.
use Rattle.std.proofs.Common.{◌∙◌, refl}
use Rattle.switch.specs.Rows.{joined}
use Rattle.switch.specs.RequestRows.{inputs_not_zero, outputs_not_zero, cells_not_zero}
use Rattle.switch.proofs.Rows.{joined_left, joined_right}
use Rattle.requests.proofs.check.not_zero_row.Goals as goal

pub returns-in_err-ports_over : goal.returns-in_err-ports_over
returns-in_err-ports_over c =
    let r = c.args.request.now in
    c.from_residual.ensures
    ∙ joined_left (inputs_not_zero r) (joined (outputs_not_zero r) (cells_not_zero r)) refl c.ports_over.ensures
    c.in_err-ports_over.ensures

pub returns-in_err-ports_over-2 : goal.returns-in_err-ports_over-2
returns-in_err-ports_over-2 c =
    let r = c.args.request.now in
    c.from_residual-in_err-ports_over-2.ensures
    ∙ joined_right (inputs_not_zero r) (joined (outputs_not_zero r) (cells_not_zero r)) refl c.ports_over.ensures
    c.in_ok-ports_over.ensures
    (joined_left (outputs_not_zero r) (cells_not_zero r) refl c.ports_over-2.ensures c.in_err-ports_over-2.ensures)

pub returns : goal.returns
returns c =
    let r = c.args.request.now in
    joined_right (inputs_not_zero r) (joined (outputs_not_zero r) (cells_not_zero r)) refl c.ports_over.ensures
    c.in_ok-ports_over.ensures
    (joined_right (outputs_not_zero r) (cells_not_zero r) refl c.ports_over-2.ensures c.in_ok-ports_over-2.ensures
    c.cells_over.ensures)
