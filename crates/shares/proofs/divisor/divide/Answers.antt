-- One more number is divided.
use Rattle.std.proofs.Common.{◌/◌, arith}
use Rattle.worked.proofs.Divisors.{map_more}
use Rattle.shares.proofs.divisor.divide.Goals as goal

pub loop-x-preserved : goal.loop-x-preserved
loop-x-preserved c =
    rw (c.quotient.ensures, c.loop-x.invariant)
    (map_more (λ x. x / c.args.by) c.loop-x.x-index c.args.numerators.now (omega arith))
