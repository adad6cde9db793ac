-- `kind_row` meets its contract: the loop is the search over the blocks.
use Rattle.switch.proofs.Search.{Passed}
use Rattle.formats.specs.FileRows.{kind_row}
use Rattle.files.proofs.rows.kind_row.Given as goal

abbrev pub invariant-loop-b : goal.invariant-loop-b
invariant-loop-b l = Passed (kind_row l.kinds l.file) l.b
