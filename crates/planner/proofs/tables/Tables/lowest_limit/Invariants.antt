-- `lowest_limit` meets its contract: the loop is the search.
use Rattle.std.proofs.Common.{◌≡◌}
use Rattle.fairness.specs.Filling.{never, lowest}
use Rattle.planner.specs.Limits.{limits_of}
use Rattle.planner.specs.Engine.{next_of, limit_event}
use Rattle.planner.proofs.tables.Tables.lowest_limit.Given as goal

abbrev pub invariant-loop-limit : goal.invariant-loop-limit
invariant-loop-limit l =
    record {
      end : l.limit-end ≡ limits_of l.flows.cards;
      found : next_of l.best ≡ lowest l.limit (limit_event l.self.left l.self.parts) never;
    }
