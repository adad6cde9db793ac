-- What is shown of every request within the limits, in one place: with `Fairness`, the file to read first. Document 01
-- asks for the first three in its section 'Fairness', and for the others by calling one plan the request's.
use Rattle.std.specs.Prelude.{◌≤◌, ◌↔◌, ◌≡◌}
use Rattle.switch.specs.Rates.{Rates}
use Rattle.switch.specs.Fairness.{Allocation, Fair, Settled, SameRates}
use Rattle.switch.specs.Planned.{Right, plan_of}
use Rattle.switch.specs.declared.plan.Plan.{Plan}
use Rattle.switch.specs.declared.request.Request.{Request}

pub record Shown (r : Request) : Type 0 where
  -- feasible and bounded rates are fair exactly when each flow has its demand or a bottleneck
  pub exactly : (a : Rates) → Allocation r a → (Fair r a ↔ Settled r a)
  -- some rates are fair
  pub one : (a : Rates) × Fair r a
  -- and no others
  pub only : (a z : Rates) → Fair r a → Fair r z → SameRates r a z
  -- the plan of the request is right: fair, over the least base, with the reasons defined
  pub right : Right r (plan_of r)
  -- and no other plan is
  pub alone : (p : Plan) → Right r p → p ≡ plan_of r
  -- its base is in range
  pub base : (1 ≤ (plan_of r).base) × ((plan_of r).base ≤ 4_294_967_296)
