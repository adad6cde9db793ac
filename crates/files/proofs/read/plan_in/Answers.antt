-- `plan_in` meets its contract: each number of the two tables is read from its place.
use Rattle.std.proofs.Common.{sym, rules}
use Rattle.laws.proofs.Lists.{list_is}
use Rattle.files.proofs.read.plan_in.Goals as goal

pub returns : goal.returns
returns c =
    let numerators = list_is 64 _ c.cells.result (search rules) (λ i h. let read = c.cells.ensures i h in search rules) in
    let reasons = list_is 64 _ c.cells-2.result (search rules) (λ i h. let read = c.cells-2.ensures i h in search rules) in
    λ i. record { base = c.base_in.ensures i; numerators = sym numerators i; reasons = sym reasons i }
