-- `table` meets its contract: each number of the table is a word.
use Rattle.std.proofs.Common.{rules}
use Rattle.switch.proofs.Made.{made_by}
use Rattle.files.proofs.read.table.Goals as goal

pub returns : goal.returns
returns g c = made_by _ _ _ _ (λ i y t h called. search rules) c.from_fn.ensures.items
