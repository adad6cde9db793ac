-- The divisor so far, with the numbers to come, has the same common divisor.
use Rattle.std.proofs.Common.{◌≡◌, drop}
use Rattle.fairness.specs.Divisor.{gcd_of}
use Rattle.shares.proofs.divisor.common_divisor.Given as goal

abbrev pub invariant-loop-x : goal.invariant-loop-x
invariant-loop-x l =
    gcd_of l.common (drop l.x-index l.numerators) ≡ gcd_of l.base l.numerators
