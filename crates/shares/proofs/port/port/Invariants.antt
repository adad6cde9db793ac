-- The loop takes one flow after another.
use Rattle.std.proofs.Common.{◌≡◌, get_or}
use Rattle.worked.specs.Saturated.{ports}
use Rattle.worked.proofs.Ports.{Walked}
use Rattle.shares.proofs.port.port.Given as goal

abbrev pub invariant-loop-k : goal.invariant-loop-k
invariant-loop-k g l =
    record {
      last : l.k-end ≡ ports l.count;
      walked : Walked l.k (λ k. get_or l.numerators (g.P.End.flow l.p k) 0) l.port.sum l.port.most;
    }
