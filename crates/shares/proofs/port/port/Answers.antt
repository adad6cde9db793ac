-- One more flow is one more step of the sum and of the largest.
use Rattle.std.proofs.Common.{get_or}
use Rattle.worked.proofs.Ports.{walked_none, walked_more}
use Rattle.shares.proofs.port.port.Goals as goal

pub loop-k-init : goal.loop-k-init
loop-k-init g c = record { last = c.min-k-end.ensures; walked = walked_none _ }

pub loop-k-preserved : goal.loop-k-preserved
loop-k-preserved g c =
    let at = c.loop-k in
    record {
      last = at.invariant.last;
      walked =
          walked_more at.k (λ k. get_or c.args.numerators.now (g.P.End.flow c.args.p k) 0) at.invariant.walked c.flow.ensures c.with-port.ensures;
    }
