-- The problem of sharing that the engine is handed for a request.
use Rattle.std.specs.Prelude.{false, replicate}
use Rattle.laws.specs.Lists.{list}
use Rattle.fairness.specs.Problem.{Problem}
use Rattle.switch.specs.Planned.{capacity_of}
use Rattle.switch.specs.declared.request.Request.{Request}
use Rattle.planner.specs.Limits.{problem}

-- No cards, no minima, and all weights 1.
abbrev pub ports_of : Request → Problem
ports_of r = problem false (list 20 (capacity_of r)) r.demands (replicate 64 0) (replicate 64 1)
