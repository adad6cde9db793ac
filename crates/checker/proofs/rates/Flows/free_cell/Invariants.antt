-- The walk passes the row's candidates input by input. The outermost loop makes one turn.
use Rattle.std.proofs.Common.{◌≡◌, ◌+◌, ◌*◌}
use Rattle.switch.proofs.Search.{Passed}
use Rattle.worked.specs.Saturated.{ports}
use Rattle.checker.specs.Flows.{row_of_free}
use Rattle.checker.proofs.rates.Flows.free_cell.Given as goal

abbrev pub invariant-loop-v : goal.invariant-loop-v
invariant-loop-v l =
    record {
      last : l.v-end ≡ ports l.self.request.now.n;
      passed : Passed (row_of_free l.self) (8 * l.u + l.v);
    }

abbrev pub invariant-loop-u : goal.invariant-loop-u
invariant-loop-u l =
    record {
      last : l.u-end ≡ ports l.self.request.now.m;
      passed : Passed (row_of_free l.self) (8 * l.u);
    }

abbrev pub invariant-walk : goal.invariant-walk
invariant-walk l = Unit

abbrev pub decreases-walk : goal.decreases-walk
decreases-walk l = 0
