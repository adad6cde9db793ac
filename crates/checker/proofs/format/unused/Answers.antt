-- The row's two parts are the two tables of the half.
use Rattle.std.proofs.Common.{refl, ◌∙◌}
use Rattle.switch.specs.Halves.{half_number}
use Rattle.switch.proofs.Rows.{joined_left, joined_right}
use Rattle.judging.specs.PlanRows.{unused_rates, unused_reasons}
use Rattle.checker.proofs.format.unused.Goals as goal

pub returns-in_err-unused_rates : goal.returns-in_err-unused_rates
returns-in_err-unused_rates c =
    let r = c.args.request.now in
    let p = c.args.plan.now in
    let half = half_number c.args.half in
    c.from_residual.ensures
    ∙ joined_left (unused_rates r p half) (unused_reasons r p half) refl c.unused_rates.ensures c.in_err-unused_rates.ensures

pub returns : goal.returns
returns c =
    let r = c.args.request.now in
    let p = c.args.plan.now in
    let half = half_number c.args.half in
    joined_right (unused_rates r p half) (unused_reasons r p half) refl c.unused_rates.ensures c.in_ok-unused_rates.ensures
    c.unused_reasons.ensures
