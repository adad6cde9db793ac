-- `capacities` meets its contract: an entry for each limit.
use Rattle.std.proofs.Common.{rules, sym}
use Rattle.laws.proofs.Lists.{list_is}
use Rattle.planner.proofs.plan.capacities.Goals as goal

pub returns : goal.returns
returns c = sym (list_is 20 _ c.from_fn.result (search rules) (λ i h. search rules))
