-- Whether a block is sealed is what the loop's test asked.
use Rattle.std.proofs.Common.{arith, rules}
use Rattle.files.proofs.Refusing.{refuses_there}
use Rattle.files.proofs.rows.check_row.Goals as goal

pub returns-then-not-sealed : goal.returns-then-not-sealed
returns-then-not-sealed c =
    refuses_there c.refused.ensures (omega arith) c.loop-b.invariant (omega arith) (search rules)
