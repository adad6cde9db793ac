-- `spare_row` meets its contract: the loop is the search over the spare words.
use Rattle.switch.proofs.Search.{Passed}
use Rattle.formats.specs.FileRows.{spare_row}
use Rattle.files.proofs.rows.spare_row.Given as goal

abbrev pub invariant-loop-i : goal.invariant-loop-i
invariant-loop-i l = Passed (spare_row l.block l.from l.count l.file) l.i
