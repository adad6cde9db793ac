-- `cells_over` meets its contract: each turn searches one input's cells.
use Rattle.std.proofs.Common.{ℕ, ◌≡◌, ◌+◌, ◌*◌, ◌<◌, Bool, cond, ltb, List, sym, ◌∙◌, ap, subst, arith}
use Rattle.std.specs.Prelude.{Option}
use Rattle.switch.specs.Tables.{FoundAbove, cells_over, used_end}
use Rattle.switch.specs.declared.verdict.Cause.{Cause}
use Rattle.switch.proofs.Above.{place_of, first_of_found, within_stretch}
use Rattle.switch.proofs.Search.{Passed, Sought, sought_more, sought_refuses, row_accepts}
use Rattle.switch.proofs.Stretch.{end_within, used_before_end, sought_stretch}
use Rattle.requests.proofs.tables.cells_over.Goals as goal

-- What one turn has searched, from the input's first cell on.
sought : (cause : Cause) (used : Bool) (m n most : ℕ) (xs : List ℕ) (u : ℕ) {first end : ℕ} {found : Option ℕ} (answer : Option ℕ)
    → u < 8
    → first ≡ u
    → end ≡ used_end m n u
    → FoundAbove most (cond used (8 * first) end) (cond used end (8 * first + 8)) xs found
    → found ≡ answer
    → Sought (cells_over cause 19 used m n most xs) (8 * u) (8 * u + 8) (place_of answer)
sought cause used m n most xs u {first} {end} {found} answer h same e f is =
    sought_stretch 19 (omega arith) (omega arith) (omega (arith, end_within m n u))
    (λ k low high. used_before_end m n u k h low high ∙ ap (ltb k) (sym e)) used
    (first_of_found answer (subst (λ r. FoundAbove most (cond used (8 * u) end) (cond used end (8 * u + 8)) xs r) is
    (subst (λ x. FoundAbove most (cond used (8 * x) end) (cond used end (8 * x + 8)) xs found) same f)))

pub returns-in-Some : goal.returns-in-Some
returns-in-Some c =
    let a = c.args in
    let r = a.request.now in
    let end = end_within r.m r.n c.loop-u.u in
    let s = sought a.bound.cause a.bound.used r.m r.n a.bound.most r.demands c.loop-u.u _ c.loop-u-test.true c.from-first.ensures
    c.used_end-end.ensures c.first_over.ensures c.in-Some.is in
    let limit = within_stretch a.bound.used {end = c.used_end-end.result} {last = 8 * c.from-first.result + 8} (omega (arith, end)) in
    c.refused.ensures ∙ sym (sought_refuses c.loop-u.invariant s (omega (arith, c.in-Some.ensures.1, limit)))

pub loop-u-preserved : goal.loop-u-preserved
loop-u-preserved c =
    let a = c.args in
    let r = a.request.now in
    let s = sought a.bound.cause a.bound.used r.m r.n a.bound.most r.demands c.loop-u.u _ c.loop-u-test.true c.from-first.ensures
    c.used_end-end.ensures c.first_over.ensures c.in_default.is in
    subst (Passed (cells_over a.bound.cause 19 a.bound.used r.m r.n a.bound.most r.demands)) (omega arith)
    (sought_more c.loop-u.invariant s (omega arith) (omega arith))

pub returns : goal.returns
returns c = sym (row_accepts c.loop-u.invariant (omega arith))
