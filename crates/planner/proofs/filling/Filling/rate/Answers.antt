-- `rate` meets its contract: the level of a limit fits 64 bits when it is multiplied by a weight.
use Rattle.std.proofs.Common.{◌≤◌, arith}
use Rattle.std.proofs.Math.Nat.{mul-le-mul}
use Rattle.planner.specs.Sizes.{most_parts}
use Rattle.planner.proofs.filling.Filling.rate.Goals as goal

pub overflow_mul-result : goal.overflow_mul-result
overflow_mul-result c =
    let light : c.from.result ≤ most_parts =
    omega (arith, c.from.ensures, c.args.flows.now.weights_small.each c.args.cell c.requires.0) in
    omega (arith, mul-le-mul light (c.requires.1.each c.in-Stopped.limit c.in-Stopped.ensures.numbered))
