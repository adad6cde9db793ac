-- A plan is accepted exactly when its request and its numbers are within their limits, its rates are fair and its reasons right.
use Prim.Native.Nat.{ℕ, ◌-◌, ◌*◌, ◌≤◌, ◌<◌}
use mathlib.Core.Bool.{Bool, true, false, cond, not, ◌&&◌, ◌||◌, and-false, or-true}
use mathlib.Core.Logic.{◌⊎◌, ◌↔◌, inl, inr}
use mathlib.Core.Path.{◌≡◌, sym, ◌∙◌, ap, ap₂, subst}
use native.Mathlib.Nat.{zero-add}
use native.Mathlib.Omega.{arith}
use lib.Dec.{leb, ltb}
use borrow.Author.Tests.{eq-eqb, eqb-true, lt-ltb, le-ltb, ltb-true, ltb-false, le-leb, leb-true, not-false, not-true}
use Rattle.laws.proofs.Search.{le_or_lt, true_or_false, true_not_false, both_true, true_of_both}
use Rattle.switch.specs.Cells.{input, output, cell_of, input_of, output_of, used_cell, input_used, output_used, input_capacity, output_capacity, demand_of}
use Rattle.switch.specs.Fairness.{Used, Allocation, Settled, InputBottleneck, OutputBottleneck}
use Rattle.switch.specs.Given.{Silent, AllSilent}
use Rattle.switch.specs.Rates.{Rates, flow, rates_of}
use Rattle.switch.specs.Reason.{at_demand, input_holds, output_holds, flow_reason, reason_of}
use Rattle.switch.specs.RequestRows.{above, not_zero_row}
use Rattle.switch.specs.Rows.{joined}
use Rattle.switch.specs.Within.{Within}
use Rattle.switch.specs.declared.plan.Plan.{Plan}
use Rattle.switch.specs.declared.port.Input.{Input}
use Rattle.switch.specs.declared.port.Output.{Output}
use Rattle.switch.specs.declared.request.Request.{Request}
use Rattle.switch.specs.declared.verdict.Cause.TheVariants.{ReasonRange, AboveDemand, NoBottleneck, WrongReason}
use Rattle.switch.specs.declared.verdict.Verdict.TheVariants.{Accepted}
use Rattle.switch.proofs.Cells.{cell_below, cell_of-ports, used_cell_of_cell, unused_of_past, used_cell_of_ports, past_of_unused, input_of_cell, output_of_cell}
use Rattle.switch.proofs.Fair.{fair_exactly_when_settled}
use Rattle.switch.proofs.Reason.{bottleneck_of_holds, holds_of_bottleneck, output_bottleneck_of_holds, holds_of_output_bottleneck}
use Rattle.switch.proofs.Rows.{silent_nil, silent_cons, silent_here, silent_after, silent_joined, silent_first, silent_second, accepted_exactly}
use Rattle.switch.proofs.Sharing.{by_cell, Past, below_eight, used_flow}
use Rattle.switch.proofs.Tests.{second_false, and_false_of, le_of_not_above, not_above_of_le}
use Rattle.switch.proofs.Within.{within_of_silent, silent_of_within}
use Rattle.judging.specs.PlanWithin.{PlanWithin, said_reason}
use Rattle.judging.specs.PlanRows.{numerator_of, cell_in, unused_rates, unused_reasons, half_not_zero, base_row, no_reason, above_demand}
use Rattle.judging.specs.PlanRows.{above_demand_row, input_over_row, output_over_row, free, no_bottleneck_row, wrong_reason, fair_rows, rate_rows}
use Rattle.judging.specs.PlanRows.{judge_rows, judged}
use Rattle.judging.specs.Shown.{FairPlan}
use Rattle.judging.proofs.Flows.{silent_flows, flows_silent}

-- Unused cells, in the two halves of a plan.
module _ (r : Request) where
  unused_cell : (u : Input) (v : Output) → u.0 < 8 → v.0 < 8 → Past r u v → not (used_cell r (cell_of u v)) ≡ true
  unused_cell u v hu hv past = ap not (used_cell_of_cell r u v hu hv ∙ unused_of_past r u v past)

  -- What holds of the 32 cells of each half holds of all.
  pub by_half : (Q : ℕ → Type 0) → ((k : ℕ) → k < 32 → Q (cell_in 0 k)) → ((k : ℕ) → k < 32 → Q (cell_in 1 k)) → (c : ℕ) → c < 64 → Q c
  by_half Q first second c h = go (le_or_lt 32 c)
    where
      go : (32 ≤ c) ⊎ (c < 32) → Q c
      go (inr l) = subst Q (zero-add c) (first c l)
      go (inl l) = subst Q {x = cell_in 1 (c - 32)} (omega arith) (second (c - 32) (omega arith))

  -- A number that is 0 in every unused cell, by a test of each.
  zero_of_silent : (f : ℕ → ℕ) → ((c : ℕ) → c < 64 → above (not (used_cell r c)) 0 (f c) ≡ false)
      → (u : Input) (v : Output) → u.0 < 8 → v.0 < 8 → Past r u v → f (cell_of u v) ≡ 0
  zero_of_silent f s u v hu hv past =
      omega (arith, le_of_not_above (not (used_cell r (cell_of u v))) 0 (f (cell_of u v)) (s (cell_of u v) (cell_below u v hu hv)) (unused_cell u v hu hv past))

  silent_of_zero : (f : ℕ → ℕ) → ((u : Input) (v : Output) → u.0 < 8 → v.0 < 8 → Past r u v → f (cell_of u v) ≡ 0)
      → (c : ℕ) → c < 64 → above (not (used_cell r c)) 0 (f c) ≡ false
  silent_of_zero f z c h =
      not_above_of_le (not (used_cell r c)) 0 (f c)
      (λ e.
      let past = past_of_unused r (input_of c) (output_of c) (sym (used_cell_of_ports r c h) ∙ not-true (used_cell r c) e) in
      subst (λ k. f k ≤ 0) (cell_of-ports c h) (omega (arith, z (input_of c) (output_of c) (omega arith) (omega arith) past)))

-- The numbers of a plan are within their limits exactly when rows 7, after the request's own words, and 8 are silent.
module _ (r : Request) (p : Plan) where
  halves : (half : ℕ) → Silent (half_not_zero r p half) → Silent (unused_rates r p half) × Silent (unused_reasons r p half)
  halves half s =
      (silent_first (unused_rates r p half) (unused_reasons r p half) s, silent_second (unused_rates r p half) (unused_reasons r p half) s)

  pub plan_within_of_silent : Silent (half_not_zero r p 0) → Silent (half_not_zero r p 1) → Silent (base_row p.base) → PlanWithin r p
  plan_within_of_silent first second base =
      let inside = both_true (leb 1 p.base) (leb p.base 4_294_967_296) (not-false _ (base 0 (omega arith))) in
      record {
        base = (leb-true 1 p.base inside.0, leb-true p.base 4_294_967_296 inside.1);
        unused_rate =
            zero_of_silent r (numerator_of p)
            (by_half r (λ c. above (not (used_cell r c)) 0 (numerator_of p c) ≡ false) (halves 0 first).0 (halves 1 second).0);
        unused_reason =
            zero_of_silent r (said_reason p)
            (by_half r (λ c. above (not (used_cell r c)) 0 (said_reason p c) ≡ false) (halves 0 first).1 (halves 1 second).1);
      }

  pub half_silent : PlanWithin r p → (half : ℕ) → half < 2 → Silent (half_not_zero r p half)
  half_silent pw half h =
      silent_joined (unused_rates r p half) (unused_reasons r p half)
      (λ k l. silent_of_zero r (numerator_of p) pw.unused_rate (cell_in half k) (omega arith))
      (λ k l. silent_of_zero r (said_reason p) pw.unused_reason (cell_in half k) (omega arith))

  pub base_silent : PlanWithin r p → Silent (base_row p.base)
  base_silent pw i h = ap not (true_of_both (le-leb 1 p.base pw.base.0) (le-leb p.base 4_294_967_296 pw.base.1))

pub free_of : {b i o : Bool} → b ≡ true → i ≡ false → o ≡ false → (b && not (i || o)) ≡ true
free_of e n m = rw (e, n, m)

pub held_by : (b i o : Bool) → (i ≡ true) ⊎ (o ≡ true) → (b && not (i || o)) ≡ false
held_by b i o (inl e) = rw e (and-false b)
held_by b i o (inr e) = rw (e, or-true i) (and-false b)

pub at_most_two : (b c : Bool) → cond b 0 (cond c 1 2) ≤ 2
at_most_two true c = omega arith
at_most_two false true = omega arith
at_most_two false false = omega arith

-- The rates are fair and the reasons right exactly when rows 10 to 15 are silent.
module _ (r : Request) (w : Within r) (p : Plan) (pw : PlanWithin r p) where
  a : Rates
  a = rates_of p

  allocation_of_silent : Silent (above_demand_row r p) → Silent (input_over_row r p) → Silent (output_over_row r p) → Allocation r a
  unfolding a
  allocation_of_silent demands inputs outputs =
      record {
        positive = pw.base.0;
        feasible =
            record {
              inputs = λ u h.
                  ltb-false (input_capacity r u * p.base) _
                  (second_false (input_used r u) _ (inputs u.0 (omega (arith, w.inputs.1))) (lt-ltb u.0 r.m h));
              outputs = λ v h.
                  ltb-false (output_capacity r v * p.base) _
                  (second_false (output_used r v) _ (outputs v.0 (omega (arith, w.outputs.1))) (lt-ltb v.0 r.n h));
            };
        bounded = record { demands = λ u v is. ltb-false _ _ (silent_flows r w AboveDemand (above_demand r p) demands u v is) };
      }

  settled_of_silent : Allocation r a → Silent (no_bottleneck_row r p) → Settled r a
  unfolding a
  settled_of_silent ok s = record { each = λ u v is. go u v is (le_or_lt (demand_of r (cell_of u v) * p.base) (flow a u v)) (true_or_false (input_holds r a u v)) (true_or_false (output_holds r a u v)) }
    where
      go : (u : Input) (v : Output) → Used r u v
          → (demand_of r (cell_of u v) * p.base ≤ flow a u v) ⊎ (flow a u v < demand_of r (cell_of u v) * p.base)
          → (input_holds r a u v ≡ true) ⊎ (input_holds r a u v ≡ false) → (output_holds r a u v ≡ true) ⊎ (output_holds r a u v ≡ false)
          → (flow a u v ≡ demand_of r (cell_of u v) * p.base) ⊎ (InputBottleneck r a u v ⊎ OutputBottleneck r a u v)
      go u v is (inl h) i o = inl (omega (arith, ok.bounded.demands u v is))
      go u v is (inr h) (inl e) o = inr (inl (bottleneck_of_holds r a u v e))
      go u v is (inr h) (inr n) (inl e) = inr (inr (output_bottleneck_of_holds r a u v e))
      go u v is (inr h) (inr n) (inr e) =
          absurd (true_not_false {b = free r p u v}
          (free_of (lt-ltb (flow a u v) (demand_of r (cell_of u v) * p.base) h) n e)
          (silent_flows r w NoBottleneck (free r p) s u v is))

  reason_of_flow : (u : Input) (v : Output) → Used r u v → reason_of r a (cell_of u v) ≡ flow_reason r a u v
  reason_of_flow u v is =
      let low = below_eight r w u v is in
      rw (used_flow r w u v is)
      (ap₂ (flow_reason r a) (input_of_cell u v low.0 low.1) (output_of_cell u v low.1))

  pub fair_of_silent : AllSilent (fair_rows r p) → FairPlan r p
  unfolding a
  fair_of_silent all =
      let inputs = silent_after all in
      let outputs = silent_after inputs in
      let necks = silent_after outputs in
      let reasons = silent_here (silent_after necks) in
      let ok = allocation_of_silent (silent_here all) (silent_here inputs) (silent_here outputs) in
      record {
        rates = (fair_exactly_when_settled r w a ok).1 (settled_of_silent ok (silent_here necks));
        reasons =
            by_cell r (λ c. said_reason p c ≡ reason_of r a c)
            (λ u v is.
            let low = below_eight r w u v is in
            eqb-true _ _ (not-false _ (silent_flows r w WrongReason (wrong_reason r p) reasons u v is)) ∙ sym (reason_of_flow u v is))
            (λ u v hu hv past. pw.unused_reason u v hu hv past ∙ sym (rw (used_cell_of_cell r u v hu hv ∙ unused_of_past r u v past)));
      }

  pub rates_silent : FairPlan r p → AllSilent (rate_rows r p)
  unfolding a
  rates_silent fair =
      let ok = fair.rates.allocation in
      silent_cons (flows_silent r w ReasonRange (no_reason p) (λ u v is. le-ltb 2 (said_reason p (cell_of u v)) (rw (said u v is) (at_most_two (at_demand r a u v) (input_holds r a u v)))))
      (silent_cons (flows_silent r w AboveDemand (above_demand r p) (λ u v is. le-ltb _ _ (ok.bounded.demands u v is)))
      (silent_cons (λ i h. and_false_of (input_used r (input i)) _ (λ e. le-ltb _ _ (ok.feasible.inputs (input i) (ltb-true i r.m e))))
      (silent_cons (λ i h. and_false_of (output_used r (output i)) _ (λ e. le-ltb _ _ (ok.feasible.outputs (output i) (ltb-true i r.n e))))
      (silent_cons (flows_silent r w NoBottleneck (free r p) (λ u v is. not_free u v (((fair_exactly_when_settled r w a ok).0 fair.rates).each u v is)))
      (silent_cons (flows_silent r w WrongReason (wrong_reason r p) (λ u v is. ap not (eq-eqb _ _ (said u v is)))) silent_nil)))))
    where
      said : (u : Input) (v : Output) → Used r u v → said_reason p (cell_of u v) ≡ flow_reason r a u v
      said u v is =
          let low = below_eight r w u v is in
          fair.reasons (cell_of u v) (cell_below u v low.0 low.1) ∙ reason_of_flow u v is

      not_free : (u : Input) (v : Output)
          → (flow a u v ≡ demand_of r (cell_of u v) * p.base) ⊎ (InputBottleneck r a u v ⊎ OutputBottleneck r a u v) → free r p u v ≡ false
      not_free u v (inl met) = rw (le-ltb (flow a u v) (demand_of r (cell_of u v) * p.base) (omega arith))
      not_free u v (inr (inl neck)) = held_by (ltb (flow a u v) (demand_of r (cell_of u v) * p.base)) (input_holds r a u v) (output_holds r a u v) (inl (holds_of_bottleneck r a u v neck))
      not_free u v (inr (inr neck)) = held_by (ltb (flow a u v) (demand_of r (cell_of u v) * p.base)) (input_holds r a u v) (output_holds r a u v) (inr (holds_of_output_bottleneck r a u v neck))

-- All rows of a request with a plan.
module _ (r : Request) (p : Plan) where
  pair_within : AllSilent (judge_rows r p) → Within r × PlanWithin r p
  pair_within ports =
      let capacities = silent_after ports in
      let demands = silent_after capacities in
      let zeros = silent_after demands in
      let plan = silent_second (not_zero_row r) (joined (half_not_zero r p 0) (half_not_zero r p 1)) (silent_here zeros) in (
        within_of_silent r
            (silent_cons (silent_here ports) (silent_cons (silent_here capacities) (silent_cons (silent_here demands)
            (silent_cons (silent_first (not_zero_row r) (joined (half_not_zero r p 0) (half_not_zero r p 1)) (silent_here zeros)) silent_nil)))),
        plan_within_of_silent r p (silent_first (half_not_zero r p 0) (half_not_zero r p 1) plan)
            (silent_second (half_not_zero r p 0) (half_not_zero r p 1) plan) (silent_here (silent_after zeros)),
      )

  judged_means : judged r p ≡ Accepted → Within r × PlanWithin r p × FairPlan r p
  judged_means e =
      let all = (accepted_exactly (judge_rows r p)).0 e in
      let (w, pw) = pair_within all in
      (w, pw, fair_of_silent r w p pw (silent_after (silent_after (silent_after (silent_after (silent_after (silent_after all)))))))

  judged_if : Within r × PlanWithin r p × FairPlan r p → judged r p ≡ Accepted
  judged_if (w, pw, fair) =
      let ports = silent_of_within r w in
      let capacities = silent_after ports in
      let demands = silent_after capacities in
      (accepted_exactly (judge_rows r p)).1
      (silent_cons (silent_here ports) (silent_cons (silent_here capacities) (silent_cons (silent_here demands)
      (silent_cons (silent_joined (not_zero_row r) (joined (half_not_zero r p 0) (half_not_zero r p 1)) (silent_here (silent_after demands))
      (silent_joined (half_not_zero r p 0) (half_not_zero r p 1) (half_silent r p pw 0 (omega arith)) (half_silent r p pw 1 (omega arith))))
      (silent_cons (base_silent r p pw) (rates_silent r w p pw fair))))))

  pub judged_exactly : (judged r p ≡ Accepted) ↔ (Within r × PlanWithin r p × FairPlan r p)
  judged_exactly = (judged_means, judged_if)
