-- The first reason of an unused cell that is not 0 is the row's first offender.
use Rattle.std.proofs.Common.{◌<◌, not, ◌&&◌, get_or, refl, ◌∙◌, ap, arith, rules}
use Rattle.switch.specs.Halves.{half_number}
use Rattle.switch.specs.Tables.{used_at}
use Rattle.judging.specs.PlanRows.{cell_in, unused_reasons}
use Rattle.judging.specs.Places.{reason_word}
use Rattle.checker.proofs.Unused.{half_below, above_zero, half_row}
use Rattle.checker.proofs.format.unused_reasons.Goals as goal

pub returns : goal.returns
returns c =
    let r = c.args.request.now in
    let p = c.args.plan.now in
    let half = half_number c.args.half in
    c.refused_if.ensures
    ∙ half_row (unused_reasons r p half) half _ refl
    (λ k h. ap (λ t. not (used_at r.m r.n (cell_in half k)) && t) (above_zero (get_or p.reasons (cell_in half k) 0)))
    reason_word (λ k. refl) c.first_unused-found.result c.map.result c.first_unused-found.ensures _ c.map.ensures.cases
    (λ k x h called. let low : k < 64 = omega (arith, h, half_below c.args.half) in search rules)
