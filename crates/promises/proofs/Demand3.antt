-- The third demand is met.
use Prim.Native.Nat.{ℕ, ◌≤◌}
use mathlib.Core.Path.{◌≡◌, sym, ap, subst}
use mathlib.Core.Bool.{true}
use native.Mathlib.Omega.{arith}
use Rattle.switch.specs.Cells.{used_cell, demand_of}
use Rattle.switch.specs.Entitlement.{with_demand, rate_of, entitlement, smaller, SameRate}
use Rattle.switch.specs.Planned.{plan_of}
use Rattle.switch.specs.Within.{Within, Shaped}
use Rattle.switch.specs.declared.plan.Plan.{Plan}
use Rattle.switch.specs.declared.request.Request.{Request}
use Rattle.switch.proofs.Entitlement.{within_asking, entitled_shown}
use Rattle.switch.proofs.Within.{accepted_of_within}
use Rattle.switch.specs.Answer.{planned}
use Rattle.switch.proofs.Answer.{plan_within}
use Rattle.promises.specs.Demand3.{OneFlow, Demand3}

module _ (r : Request) (w : Within r) (t : Shaped r) (c : ℕ) (is : used_cell r c ≡ true) where
  abbrev asking : ℕ → Request
  asking d = with_demand r c d

  within : (d : ℕ) → d ≤ 16_777_216 → Within (asking d)
  within = within_asking r w t c is

  -- What is shown of the plan is shown of the planner's answer.
  answered : (x : Request) → Within x → (d : ℕ) → SameRate (rate_of (plan_of x) c) (smaller d (entitlement r c))
      → SameRate (rate_of (planned x).plan c) (smaller d (entitlement r c))
  answered x wx d = subst (λ (p : Plan). SameRate (rate_of p c) (smaller d (entitlement r c))) (sym (plan_within x wx))

  one_flow : OneFlow r c
  one_flow =
      let shown = entitled_shown r w t c is in
      record {
        entitled = ap (λ (p : Plan). rate_of p c) (sym (plan_within (asking 16_777_216) (within 16_777_216 (omega arith))));
        proper = shown.proper;
        unmoved = shown.unmoved;
        given = λ d h. (accepted_of_within (asking d) (within d h), answered (asking d) (within d h) d (shown.given d h));
        own = answered r w (demand_of r c) shown.own;
        floor = shown.floor;
      }

pub demand3_kept : Demand3
demand3_kept = record { each_flow = one_flow }
