-- `first_above` meets its contract: the part that is searched ends where the table or the stretch does.
use Rattle.std.proofs.Common.{sym, ◌∙◌, subst}
use Rattle.switch.specs.Tables.{FoundAbove}
use Rattle.switch.proofs.Above.{above_found}
use Rattle.requests.proofs.tables.first_above.Goals as goal

pub returns-in_err-i : goal.returns-in_err-i
returns-in_err-i c =
    let a = c.args in
    let (_, _, part, long) = c.in_ok-part.ensures.lookup.0 in
    subst (λ r. FoundAbove a.most a.first a.last a.table.now r) (sym c.from_residual-in_err-i.ensures)
    (above_found a.most a.first a.last a.table.now c.min-end.ensures part long (sym c.above.ensures ∙ c.in_err-i.was))

pub returns : goal.returns
returns c =
    let a = c.args in
    let (_, _, part, long) = c.in_ok-part.ensures.lookup.0 in
    above_found a.most a.first a.last a.table.now c.min-end.ensures part long (sym c.above.ensures ∙ c.in_ok-i.was)
