-- Whether a word is 0 is what the loop's test asked.
use Rattle.std.proofs.Common.{◌≡◌, ℕ, ◌+◌, ◌*◌, ◌<◌, lt-ltb, subst, arith}
use Rattle.words.specs.Words.{word_at}
use Rattle.files.proofs.Refusing.{refuses_there}
use Rattle.files.proofs.rows.spare_row.Goals as goal

pub returns-then-word-gt0 : goal.returns-then-word-gt0
returns-then-word-gt0 c =
    let a = c.args in
    let place : 128 * c.from.result + (c.from-in-loop-i.result + c.from-in-loop-i-2.result) ≡ 128 * a.block + (a.from + c.loop-i.i) = omega arith in
    refuses_there c.refused.ensures place c.loop-i.invariant (omega arith)
    (lt-ltb _ _ (subst (λ (i : ℕ). 0 < word_at a.file.now i) place (rw c.word.ensures at c.if-word-gt0.true)))
