-- The numbers are divided from the front.
use Rattle.std.proofs.Common.{◌≡◌, ◌++◌, take, drop}
use Rattle.fairness.specs.Divisor.{divided}
use Rattle.shares.proofs.divisor.divide.Given as goal

abbrev pub invariant-loop-x : goal.invariant-loop-x
invariant-loop-x l =
    l.x-items ≡ divided l.by (take l.x-index l.initial.x-items) ++ drop l.x-index l.initial.x-items
