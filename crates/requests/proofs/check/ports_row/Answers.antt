-- `ports_row` meets its contract: its two tests are the search over the row's two candidates.
use Rattle.std.proofs.Common.{sym, ◌∙◌, ◌≡◌, false, arith}
use Rattle.switch.specs.RequestRows.{outside, ports_row}
use Rattle.switch.specs.declared.request.Request.{Request}
use Rattle.switch.proofs.Search.{Passed, passed_none, passed_more, row_refuses, row_accepts}
use Rattle.requests.proofs.check.ports_row.Goals as goal

-- After the first test failed, m has been passed.
m_passed : (r : Request) → outside r.m ≡ false → Passed (ports_row r) 1
m_passed r e = passed_more (passed_none (ports_row r)) (omega arith) e

pub returns-then-outside : goal.returns-then-outside
returns-then-outside c =
    let r = c.args.request.now in
    c.refused.ensures
    ∙ sym (row_refuses (passed_none (ports_row r)) (omega arith) (sym c.outside.ensures ∙ c.if-outside.true))

pub returns-then-outside-2 : goal.returns-then-outside-2
returns-then-outside-2 c =
    c.refused-then-outside-2.ensures
    ∙ sym (row_refuses (m_passed c.args.request.now (sym c.outside.ensures ∙ c.if-outside.false)) (omega arith)
    (sym c.outside-2.ensures ∙ c.if-outside-2.true))

pub returns : goal.returns
returns c =
    sym (row_accepts (passed_more (m_passed c.args.request.now (sym c.outside.ensures ∙ c.if-outside.false)) (omega arith)
    (sym c.outside-2.ensures ∙ c.if-outside-2.false)) (omega arith))
