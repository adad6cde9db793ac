-- The chain of its rows is the table's.
use Rattle.std.proofs.Common.{refl, sym, ◌∙◌}
use Rattle.checker.proofs.Judged.{judged_by}
use Rattle.checker.proofs.judge.judge.Goals as goal

pub returns-in_err-check : goal.returns-in_err-check
returns-in_err-check c =
    c.from_residual.ensures
    ∙ judged_by c.args.request c.args.plan (sym c.in_err-check.ensures ∙ c.check.ensures) refl refl refl refl

pub returns-in_err-unused : goal.returns-in_err-unused
returns-in_err-unused c =
    c.from_residual-in_err-unused.ensures
    ∙ judged_by c.args.request c.args.plan (sym c.in_ok-check.ensures ∙ c.check.ensures)
    (sym c.in_err-unused.ensures ∙ c.unused.ensures) refl refl refl

pub returns-in_err-unused-2 : goal.returns-in_err-unused-2
returns-in_err-unused-2 c =
    c.from_residual-in_err-unused-2.ensures
    ∙ judged_by c.args.request c.args.plan (sym c.in_ok-check.ensures ∙ c.check.ensures)
    (sym c.in_ok-unused.ensures ∙ c.unused.ensures) (sym c.in_err-unused-2.ensures ∙ c.unused-2.ensures) refl refl

pub returns-in_err-base_row : goal.returns-in_err-base_row
returns-in_err-base_row c =
    c.from_residual-in_err-base_row.ensures
    ∙ judged_by c.args.request c.args.plan (sym c.in_ok-check.ensures ∙ c.check.ensures)
    (sym c.in_ok-unused.ensures ∙ c.unused.ensures) (sym c.in_ok-unused-2.ensures ∙ c.unused-2.ensures)
    (sym c.in_err-base_row.ensures ∙ c.base_row.ensures) refl

pub returns : goal.returns
returns c =
    judged_by c.args.request c.args.plan (sym c.in_ok-check.ensures ∙ c.check.ensures)
    (sym c.in_ok-unused.ensures ∙ c.unused.ensures) (sym c.in_ok-unused-2.ensures ∙ c.unused-2.ensures)
    (sym c.in_ok-base_row.ensures ∙ c.base_row.ensures) c.rates.ensures
