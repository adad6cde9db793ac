-- The table is filled from the front, one input's cells a turn.
use Rattle.std.proofs.Common.{◌≡◌, ◌*◌, ◌++◌, drop, replicate}
use Rattle.laws.specs.Lists.{list}
use Rattle.worked.specs.Reason.{reason_at}
use Rattle.worked.specs.Saturated.{ports}
use Rattle.shares.proofs.reason.reasons.Given as goal

abbrev pub invariant-loop-u : goal.invariant-loop-u
invariant-loop-u l = record {
  last : l.u-end ≡ ports l.m;
  filled :
      l.table
      ≡ list (8 * l.u) (reason_at l.m l.n l.inputs l.demands l.base l.numerators)
      ++ drop (8 * l.u) (replicate 64 0);
}
