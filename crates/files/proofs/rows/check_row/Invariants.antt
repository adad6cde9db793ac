-- `check_row` meets its contract: the loop is the search over the blocks.
use Rattle.switch.proofs.Search.{Passed}
use Rattle.formats.specs.FileRows.{check_row}
use Rattle.files.proofs.rows.check_row.Given as goal

abbrev pub invariant-loop-b : goal.invariant-loop-b
invariant-loop-b l = Passed (check_row l.blocks l.file) l.b
