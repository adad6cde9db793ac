-- The row's only candidate is tested.
use Rattle.std.proofs.Common.{rules, sym, ◌∙◌, arith}
use Rattle.switch.proofs.Search.{passed_none, passed_more, row_refuses, row_accepts}
use Rattle.checker.proofs.format.base_row.Goals as goal

pub returns-then-contains : goal.returns-then-contains
returns-then-contains c =
    sym (row_accepts (passed_more (passed_none _) (omega arith) (search rules)) (omega arith))

pub returns : goal.returns
returns c = c.refused.ensures ∙ sym (row_refuses (passed_none _) (omega arith) (search rules))
