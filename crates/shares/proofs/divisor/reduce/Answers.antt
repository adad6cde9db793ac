-- A divisor below 2 leaves all as it is, and any other divides every number.
use Rattle.std.proofs.Common.{◌<◌, sym, arith}
use Rattle.fairness.specs.Divisor.{gcd_of}
use Rattle.fairness.proofs.Divisors.{gcd_of_is}
use Rattle.worked.proofs.Divisors.{reduced_below_two}
use Rattle.shares.proofs.divisor.reduce.Goals as goal

pub returns-then-least-clause-value : goal.returns-then-least-clause-value
returns-then-least-clause-value c =
    let base = c.args.base in
    let xs = c.args.numerators.now in
    let small : gcd_of base xs < 2 = omega (arith, c.common_divisor-common.ensures) in
    sym (reduced_below_two (gcd_of base xs) base xs (gcd_of_is base xs) small).0

pub returns-then-least-clause-numerators_after :
    goal.returns-then-least-clause-numerators_after
returns-then-least-clause-numerators_after c =
    let base = c.args.base in
    let xs = c.args.numerators.now in
    let small : gcd_of base xs < 2 = omega (arith, c.common_divisor-common.ensures) in
    sym (reduced_below_two (gcd_of base xs) base xs (gcd_of_is base xs) small).1
