-- The loop puts in one cell's reason after another.
use Rattle.std.proofs.Common.{◌≡◌, ◌*◌}
use Rattle.worked.specs.Overwritten.{overwritten}
use Rattle.worked.specs.Port.{input_port}
use Rattle.worked.specs.Reason.{reason_in}
use Rattle.worked.specs.Saturated.{capped, ports}
use Rattle.worked.specs.Worked.{level_of}
use Rattle.shares.proofs.reason.fill_row.Given as goal

abbrev pub invariant-loop-v : goal.invariant-loop-v
invariant-loop-v l = record {
  last : l.v-end ≡ ports l.n;
  entering :
      l.entering
      ≡ level_of (capped (l.capacity * l.base)) (input_port l.n l.numerators l.u).sum
      (input_port l.n l.numerators l.u).most;
  filled :
      l.table
      ≡ overwritten (8 * l.u.0) l.v
      (reason_in (input_port l.n l.numerators l.u) l.capacity l.demands l.base l.numerators)
      l.initial.table;
}
