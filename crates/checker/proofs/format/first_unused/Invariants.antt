-- Each turn searches the unused cells of one input.
use Rattle.std.proofs.Common.{ℕ, ◌≡◌, ◌*◌, ◌≤◌, ◌<◌, not, false, get_or}
use Rattle.switch.specs.Halves.{half_number}
use Rattle.checker.proofs.Unused.{unused_that}
use Rattle.checker.proofs.format.first_unused.Given as goal

abbrev pub invariant-loop-u : goal.invariant-loop-u
invariant-loop-u g l =
    record {
      begins : l.first ≡ 4 * half_number l.fn.half;
      passed :
          (k : ℕ) → 32 * half_number l.fn.half ≤ k → k < 8 * l.u
          → unused_that l.request.m l.request.n (λ c. not (g.T.PartialEq.eq (get_or l.table c l.none) l.none)) k ≡ false;
    }
