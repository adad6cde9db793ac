-- A step of Euclid's algorithm keeps the greatest common divisor, and 0 leaves the other number.
use Rattle.std.proofs.Common.{◌≡◌, sym, ◌∙◌, ap, arith}
use Rattle.fairness.specs.Divisor.{gcd}
use Rattle.fairness.proofs.Divisors.{gcd_comm}
use Rattle.worked.proofs.Divisors.{gcd_step, gcd-zero}
use Rattle.shares.proofs.divisor.divisor.Goals as goal

pub returns-then-a-eq0 : goal.returns-then-a-eq0
returns-then-a-eq0 c =
    sym (gcd-zero c.args.b) ∙ ap (gcd c.args.b) (sym c.if-a-eq0.true) ∙ gcd_comm c.args.b c.args.a

pub loop-b-preserved : goal.loop-b-preserved
loop-b-preserved c = gcd_step c.loop-b.a c.loop-b.b (omega arith) ∙ c.loop-b.invariant

pub returns : goal.returns
returns c =
    let e : c.loop-b.b ≡ 0 = omega arith in
    sym (gcd-zero c.loop-b.a) ∙ ap (gcd c.loop-b.a) (sym e) ∙ c.loop-b.invariant
