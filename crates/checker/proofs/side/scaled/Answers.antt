-- Each number of the table is one over the base.
use Rattle.std.proofs.Common.{rules}
use Rattle.switch.proofs.Made.{made_by}
use Rattle.checker.proofs.side.scaled.Goals as goal

pub returns : goal.returns
returns g c = made_by _ _ _ _ (λ i y t h called. search rules) c.from_fn.ensures.items
