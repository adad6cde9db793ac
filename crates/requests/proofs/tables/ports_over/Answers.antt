-- `ports_over` meets its contract: one stretch holds all ports of the side.
use Rattle.std.proofs.Common.{ℕ, ◌≡◌, min, Bool, cond, List, sym, ◌∙◌, ap, ◌+◌, subst, arith}
use Rattle.std.specs.Prelude.{Option}
use Rattle.switch.specs.Tables.{FoundAbove, ports_over}
use Rattle.switch.specs.declared.verdict.Cause.{Cause}
use Rattle.switch.specs.Rows.{refusal}
use Rattle.switch.proofs.Above.{place_of, first_of_found, within_stretch}
use Rattle.switch.proofs.Search.{Sought, passed_none, sought_more, sought_refuses, row_accepts}
use Rattle.switch.proofs.Stretch.{sought_stretch, port_split}
use Rattle.requests.proofs.tables.ports_over.Goals as goal

sought : (cause : Cause) (from : ℕ) (used : Bool) (count most : ℕ) (xs : List ℕ) {end : ℕ} {found : Option ℕ} (answer : Option ℕ)
    → end ≡ min count 8
    → FoundAbove most (cond used 0 end) (cond used end 8) xs found
    → found ≡ answer
    → Sought (ports_over cause from used count most xs) 0 8 (place_of answer)
sought cause from used count most xs {end} answer e f is =
    sought_stretch from (omega arith) (omega arith) (omega arith) (port_split count e) used
    (first_of_found answer (subst (λ r. FoundAbove most (cond used 0 end) (cond used end 8) xs r) is f))

pub returns-in-Some : goal.returns-in-Some
returns-in-Some c =
    let a = c.args in
    let s = sought a.bound.cause a.from a.bound.used a.count a.bound.most a.table.now _ (c.from.ensures ∙ c.min.ensures)
    c.first_over.ensures c.in-Some.is in
    let limit = within_stretch a.bound.used {end = c.from.result} {last = 8} (omega arith) in
    c.refused.ensures
    ∙ ap (λ w. refusal a.bound.cause (w + c.in-Some.i)) c.from-in-Some.ensures
    ∙ sym (sought_refuses (passed_none _) s (omega (arith, c.in-Some.ensures.1, limit)))

pub returns-in-None : goal.returns-in-None
returns-in-None c =
    let a = c.args in
    let s = sought a.bound.cause a.from a.bound.used a.count a.bound.most a.table.now _ (c.from.ensures ∙ c.min.ensures)
    c.first_over.ensures c.in-None.is in
    sym (row_accepts (sought_more (passed_none _) s (omega arith) (omega arith)) (omega arith))
