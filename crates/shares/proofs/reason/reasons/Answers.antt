-- One more input's row is in the table, and after the last all cells are.
use Rattle.std.proofs.Common.{◌≡◌, refl, ap, get_or, ◌∙◌, arith, replicate}
use Rattle.std.proofs.lemmas.List.{get_or-replicate}
use Rattle.laws.specs.Lists.{list, list_from}
use Rattle.worked.specs.Saturated.{ports}
use Rattle.worked.proofs.Rows.{row_filled, rows_filled}
use Rattle.shares.proofs.reason.reasons.Goals as goal

pub loop-u-init : goal.loop-u-init
unfolding list list_from
loop-u-init c = record { last = c.min-u-end.ensures; filled = refl }

pub loop-u-preserved : goal.loop-u-preserved
loop-u-preserved c =
    let at = c.loop-u in
    let a = c.args in
    record {
      last = at.invariant.last;
      filled =
          row_filled a.m a.n a.base a.inputs.now a.demands.now a.numerators.now
          (replicate 64 0) refl (λ k h. get_or-replicate 64 k 0 0 h) at.u (omega (arith, at.invariant.last))
          refl (c.entry-capacity.ensures ∙ ap (λ i. get_or a.inputs.now i 0) c.from.ensures) at.invariant.filled c.fill_row.ensures;
    }

pub returns : goal.returns
returns c =
    let at = c.loop-u in
    let a = c.args in
    let all : at.u ≡ ports a.m = omega (arith, at.invariant.last) in
    rw all at at.invariant.filled
    ∙ rows_filled a.m a.n a.base a.inputs.now a.demands.now a.numerators.now
    (replicate 64 0) refl (λ k h. get_or-replicate 64 k 0 0 h)
