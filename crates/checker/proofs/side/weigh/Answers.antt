-- The side is what its ports are, and its table is the ports'.
use Rattle.std.proofs.Common.{get_or}
use Rattle.worked.specs.Port.{port_of}
use Rattle.checker.proofs.Sides.{weighed_side}
use Rattle.checker.proofs.side.weigh.Goals as goal

pub returns : goal.returns
returns g c =
    let a = c.args in
    weighed_side a.cause a.capacities.now a.plan.now.base
    (λ k. port_of a.count (λ i. get_or a.plan.now.numerators (g.P.End.flow (g.P.End.numbered k) i) 0))
    _ _ _ _ _ c.ports-ports.ensures c.scaled-full.ensures c.sums.ensures.long c.sums.ensures.each c.more_row.ensures c.levels.ensures
