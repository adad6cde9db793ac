-- No turn changes the greatest common divisor, and the second number falls.
use Rattle.std.proofs.Common.{◌≡◌}
use Rattle.fairness.specs.Divisor.{gcd}
use Rattle.shares.proofs.divisor.divisor.Given as goal

abbrev pub invariant-loop-b : goal.invariant-loop-b
invariant-loop-b l = gcd l.a l.b ≡ gcd l.fn.a l.fn.b

abbrev pub decreases-loop-b : goal.decreases-loop-b
decreases-loop-b l = l.b
