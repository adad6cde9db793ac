-- One more number is one more step of the common divisor, and at 1 those to come change nothing.
use Rattle.std.proofs.Common.{◌≡◌, ◌+◌, sym, ◌∙◌, ap, length, drop, arith}
use Rattle.std.proofs.Math.Seq.{drop-length}
use Rattle.fairness.specs.Divisor.{gcd_of}
use Rattle.worked.proofs.Divisors.{gcd_of_step, gcd_of_none, gcd_of-one}
use Rattle.shares.proofs.divisor.common_divisor.Goals as goal

pub returns-then-common-eq1 : goal.returns-then-common-eq1
returns-then-common-eq1 c =
    let rest = drop c.loop-x.x-index c.args.numerators.now in
    sym (gcd_of-one rest) ∙ ap (λ g. gcd_of g rest) (sym c.if-common-eq1.true) ∙ c.loop-x.invariant

pub loop-x-preserved : goal.loop-x-preserved
loop-x-preserved c =
    let xs = c.args.numerators.now in
    ap (λ g. gcd_of g (drop (c.loop-x.x-index + 1) xs)) c.divisor-common.ensures
    ∙ gcd_of_step c.loop-x.common xs c.loop-x.x-index (omega arith)
    ∙ c.loop-x.invariant

pub returns : goal.returns
returns c =
    let at = c.loop-x in
    let xs = c.args.numerators.now in
    let e : at.x-index ≡ length xs = omega arith in
    sym (gcd_of_none at.common)
    ∙ ap (gcd_of at.common) (sym (drop-length xs) ∙ ap (λ k. drop k xs) (sym e))
    ∙ at.invariant
