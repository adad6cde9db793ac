-- `zeros_row` meets its contract: the row's five parts answer for themselves, one after the other.
use Rattle.std.proofs.Common.{◌≡◌, ◌∙◌, refl}
use Rattle.switch.specs.Rows.{Row, joined, row_verdict}
use Rattle.switch.specs.declared.verdict.Verdict.{Verdict}
use Rattle.switch.specs.declared.verdict.Verdict.TheVariants.{Accepted}
use Rattle.switch.proofs.Rows.{joined_left, joined_right}
use Rattle.judging.specs.PlanRows.{half_not_zero}
use Rattle.formats.specs.FileRows.{spare_row}
use Rattle.files.proofs.format.zeros_row.Goals as goal

-- After three parts that accept the rest decides.
past_three : (a b c d : Row) {x y z w : Verdict} → a.cause ≡ b.cause → b.cause ≡ c.cause → c.cause ≡ d.cause → x ≡ row_verdict a
    → x ≡ Accepted → y ≡ row_verdict b → y ≡ Accepted → z ≡ row_verdict c → z ≡ Accepted → w ≡ row_verdict d
    → w ≡ row_verdict (joined a (joined b (joined c d)))
past_three a b c d ab bc cd h e k f l g m =
    joined_right a (joined b (joined c d)) ab h e (joined_right b (joined c d) bc k f (joined_right c d cd l g m))

pub returns-in_err-unused-2 : goal.returns-in_err-unused-2
returns-in_err-unused-2 c =
    let file = c.args.file.now in
    let half = half_not_zero c.args.request.now c.args.plan.now in
    past_three (spare_row 0 83 44 file) (half 0) (spare_row 1 75 52 file) (joined (half 1) (spare_row 2 75 52 file)) refl refl refl
    c.spare_row.ensures c.in_ok-spare_row.ensures c.unused.ensures c.in_ok-unused.ensures c.spare_row-2.ensures c.in_ok-spare_row-2.ensures
    (c.from_residual-in_err-unused-2.ensures ∙ joined_left (half 1) (spare_row 2 75 52 file) refl c.unused-2.ensures c.in_err-unused-2.ensures)

pub returns : goal.returns
returns c =
    let file = c.args.file.now in
    let half = half_not_zero c.args.request.now c.args.plan.now in
    past_three (spare_row 0 83 44 file) (half 0) (spare_row 1 75 52 file) (joined (half 1) (spare_row 2 75 52 file)) refl refl refl
    c.spare_row.ensures c.in_ok-spare_row.ensures c.unused.ensures c.in_ok-unused.ensures c.spare_row-2.ensures c.in_ok-spare_row-2.ensures
    (joined_right (half 1) (spare_row 2 75 52 file) refl c.unused-2.ensures c.in_ok-unused-2.ensures c.spare_row-3.ensures)
