-- One more cell gets its reason.
use Rattle.std.proofs.Common.{◌+◌, ◌*◌, get_or, refl, ◌∙◌, ap₂, set}
use Rattle.worked.specs.Overwritten.{overwritten}
use Rattle.worked.specs.Port.{input_port}
use Rattle.worked.proofs.Exact.{reason_by_level}
use Rattle.worked.proofs.Rows.{overwritten_more}
use Rattle.shares.proofs.reason.fill_row.Goals as goal

pub loop-v-init : goal.loop-v-init
unfolding overwritten
loop-v-init c =
    record {
      last = c.min-v-end.ensures;
      entering = c.level-entering.ensures ∙ rw (c.times.ensures, c.input_port-port.ensures);
      filled = refl;
    }

pub loop-v-preserved : goal.loop-v-preserved
loop-v-preserved c =
    let at = c.loop-v in
    let a = c.args in
    let cell = 8 * a.u.0 + at.v in
    record {
      last = at.invariant.last;
      entering = at.invariant.entering;
      filled =
          rw c.cell-c.ensures
          (ap₂ (λ t x. set t (8 * a.u.0 + at.v) x) at.invariant.filled
          (c.reason_by.ensures ∙ rw (c.times-asked.ensures, c.entry.ensures, c.entry-in-loop-v.ensures, c.cell-c.ensures, at.invariant.entering)
          (reason_by_level (input_port a.n a.numerators.now a.u) a.capacity (get_or a.demands.now cell 0) a.base
          (get_or a.numerators.now cell 0)))
          ∙ overwritten_more _ at.v _ _);
    }
