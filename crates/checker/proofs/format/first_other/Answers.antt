-- The part that is searched is the stretch.
use Rattle.std.proofs.Common.{not, get_or, sym, ◌∙◌, subst, arith}
use Rattle.checker.specs.Found.{FirstThat}
use Rattle.checker.proofs.Searches.{part_finds}
use Rattle.checker.proofs.format.first_other.Goals as goal

pub returns-in_err-i : goal.returns-in_err-i
returns-in_err-i g c =
    let a = c.args in
    let (_, _, part, long) = c.in_ok-part.ensures.lookup.0 in
    subst (FirstThat a.first a.last (λ k. not (g.T.PartialEq.eq (get_or a.table.now k a.none) a.none))) (sym c.from_residual-in_err-i.ensures)
    (part_finds (λ x. not (g.T.PartialEq.eq x a.none)) a.first a.last a.table.now a.none _ part long (omega arith)
    (sym c.in_err-i.was ∙ c.other.ensures))

pub returns : goal.returns
returns g c =
    let a = c.args in
    let (_, _, part, long) = c.in_ok-part.ensures.lookup.0 in
    part_finds (λ x. not (g.T.PartialEq.eq x a.none)) a.first a.last a.table.now a.none _ part long (omega arith)
    (sym c.in_ok-i.was ∙ c.other.ensures)
