-- `worked_out` meets its contract: fair rates, reduced and with their reasons, are the plan.
use Rattle.std.proofs.Common.{◌≡◌, List, ℕ, false, length, replicate, sym, ap₂, ◌∙◌, subst, rules}
use Rattle.std.proofs.Math.Nat.{le_trans}
use Rattle.fairness.specs.Fairness.{Fair}
use Rattle.fairness.specs.Filling.{over}
use Rattle.worked.specs.Reason.{reasons_at}
use Rattle.planner.specs.Limits.{problem}
use Rattle.planner.specs.Engine.{Modest}
use Rattle.planner.proofs.Ports.{modest_ports}
use Rattle.planner.proofs.Answer.{plan_of_fair}
use Rattle.planner.proofs.plan.worked_out.Goals as goal

pub invariant_of-flows : goal.invariant_of-flows
invariant_of-flows c =
    let modest = modest_ports c.args.request.now c.requires in
    record {
      demands_small = record { each = modest.demands };
      minima_small = record { each = λ i h. le_trans (modest.sound.least i h) (modest.demands i h) };
      weights_small = record { each = λ i h. le_trans (modest.weights i h) modest.heavy };
      none_heavier = record { each = modest.weights };
      heaviest_small = modest.heavy;
    }

pub fill-filled-requires : goal.fill-filled-requires
fill-filled-requires c =
    subst (λ (t : List ℕ). Modest (problem false t c.args.request.now.demands (replicate 64 0) (replicate 64 1)) 1)
    (sym c.capacities.ensures) (modest_ports c.args.request.now c.requires)

pub returns : goal.returns
returns c =
    let r = c.args.request.now in
    let long : length c.fill-filled.new.numerators ≡ 64 = search rules in
    let fair =
    subst
    (λ (t : List ℕ). Fair (problem false t r.demands (replicate 64 0) (replicate 64 1)) (over c.fill-filled.result c.fill-filled.new.numerators))
    c.capacities.ensures c.fill-filled.ensures.1 in
    (λ i. record { base = c.reduce-base.ensures.value i; numerators = c.reduce-base.ensures.numerators_after i; reasons = c.reasons-reasons.result })
    ∙ plan_of_fair r c.requires c.fill-filled.result c.fill-filled.new.numerators c.fill-filled.ensures.0 long fair c.reasons-reasons.result
    (c.reasons-reasons.ensures
    ∙ ap₂ (reasons_at r.m r.n r.inputs r.demands) c.reduce-base.ensures.value c.reduce-base.ensures.numerators_after)
