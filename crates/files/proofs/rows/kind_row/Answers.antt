-- Whether a block is of its kind is what the loop's test asked.
use Rattle.std.proofs.Common.{ap, not, add-zero, arith}
use borrow.Author.Tests.{ne_eqb}
use Rattle.files.proofs.Refusing.{refuses_there}
use Rattle.files.proofs.rows.kind_row.Goals as goal

pub returns-then-word-kind : goal.returns-then-word-kind
returns-then-word-kind c =
    refuses_there c.refused.ensures (omega arith) c.loop-b.invariant (omega arith)
    (rw add-zero (ap not (ne_eqb _ _ (rw c.word.ensures at c.if-word-kind.true))))
