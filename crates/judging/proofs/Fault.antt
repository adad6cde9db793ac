-- The number and the place of a refusal of a plan name a fault that is there.
use Prim.Native.Nat.{ℕ, ◌*◌, ◌≤◌, ◌<◌}
use mathlib.Core.Bool.{Bool, true, not}
use mathlib.Core.Logic.{◌⊎◌, inl, inr}
use mathlib.Core.Path.{◌≡◌, refl, sym, ◌∙◌, ap, subst}
use native.Mathlib.Nat.{add-zero}
use native.Mathlib.Omega.{arith}
use lib.Dec.{ltb}
use borrow.Author.Tests.{eq-eqb, ne_eqb, ltb-true, le-leb, not-true}
use Rattle.laws.proofs.Search.{le_or_lt, eq_or_not, both_true, true_of_both, true_not_false}
use Rattle.switch.specs.Cells.{input, output, cell_of, input_of, output_of, used_cell, input_used, output_used, demand_of}
use Rattle.switch.specs.Fairness.{Used}
use Rattle.switch.specs.Fault.{Fault}
use Rattle.switch.specs.Given.{Gives}
use Rattle.switch.specs.Numbering.{number_of}
use Rattle.switch.specs.Rates.{flow, rates_of}
use Rattle.switch.specs.Reason.{input_holds, output_holds}
use Rattle.switch.specs.RequestRows.{above, ports_row, capacity_row, demand_row, not_zero_row}
use Rattle.switch.specs.Rows.{Row, joined}
use Rattle.switch.specs.declared.plan.Plan.{Plan}
use Rattle.switch.specs.declared.port.Input.{Input}
use Rattle.switch.specs.declared.port.Output.{Output}
use Rattle.switch.specs.declared.request.Request.{Request}
use Rattle.switch.specs.declared.verdict.Cause.{Cause}
use Rattle.switch.specs.declared.verdict.Cause.TheVariants.{ReasonRange, AboveDemand, NoBottleneck, WrongReason}
use Rattle.switch.proofs.Cells.{cell_of-ports, below_of_used, past_of_unused, used_cell_of_ports}
use Rattle.switch.proofs.Fault.{ports_named, capacities_named, demands_named, zeros_named}
use Rattle.switch.proofs.Reason.{holds_of_bottleneck, holds_of_output_bottleneck}
use Rattle.switch.proofs.Rows.{each_nil, each_cons, Named, named_joined, gives_named}
use Rattle.judging.specs.Fault.{Unused, PlanFault, of_request, low_rate, high_rate, unused_reason, base, reason_range, above_demand_fault}
use Rattle.judging.specs.Fault.{input_over_fault, output_over_fault, no_bottleneck, wrong_reason_fault}
use Rattle.judging.specs.Places.{reason_word, low_of}
use Rattle.judging.specs.PlanWithin.{said_reason}
use Rattle.judging.specs.PlanRows.{numerator_of, cell_in, first_word, unused_rates, unused_reasons, half_not_zero, pair_not_zero_row, base_row, flow_row}
use Rattle.judging.specs.PlanRows.{no_reason, reason_range_row, above_demand, above_demand_row, input_over_row, output_over_row, free, no_bottleneck_row}
use Rattle.judging.specs.PlanRows.{wrong_reason, wrong_reason_row, judge_rows, judged}
use Rattle.judging.proofs.Accepted.{held_by}

module _ (r : Request) (p : Plan) where
  -- A cell is named by its ports: one that is unused and not 0 in a table,
  unused_named : (f : ℕ → ℕ) (Q : ℕ → Type 0) → ((u : Input) (v : Output) → Unused r u v → 0 < f (cell_of u v) → Q (cell_of u v))
      → (c : ℕ) → c < 64 → above (not (used_cell r c)) 0 (f c) ≡ true → Q c
  unused_named f Q named c h e =
      let (unused, more) = both_true (not (used_cell r c)) (ltb 0 (f c)) e in
      let past = past_of_unused r (input_of c) (output_of c) (sym (used_cell_of_ports r c h) ∙ not-true (used_cell r c) unused) in
      subst (λ x. 0 < f x → Q x) (cell_of-ports c h) (named (input_of c) (output_of c) (omega arith, omega arith, past))
      (ltb-true 0 (f c) more)

  -- and one whose flow offends.
  flow_named : (cause : Cause) (test : Input → Output → Bool)
      → ((u : Input) (v : Output) → Used r u v → test u v ≡ true → PlanFault r p (number_of cause) (cell_of u v))
      → Named (PlanFault r p) (flow_row cause r test)
  flow_named cause test named c h e =
      let (is, tested) = both_true (used_cell r c) (test (input_of c) (output_of c)) e in
      let (u, v) = below_of_used r (input_of c) (output_of c) (sym (used_cell_of_ports r c h) ∙ is) in
      subst (PlanFault r p (number_of cause)) (cell_of-ports c h)
      (named (input_of c) (output_of c) (record { input = u; output = v }) tested)

  -- A number that is not 0 has a word that is not, and its place is that of the first such word.
  first_word_named : (u : Input) (v : Output) → Unused r u v → 0 < flow (rates_of p) u v
      → PlanFault r p 7 (first_word (cell_of u v) (flow (rates_of p) u v))
  first_word_named u v past more = go (eq_or_not (low_of (flow (rates_of p) u v)) 0)
    where
      go : (low_of (flow (rates_of p) u v) ≡ 0) ⊎ (low_of (flow (rates_of p) u v) ≡ 0 → ⊥)
          → PlanFault r p 7 (first_word (cell_of u v) (flow (rates_of p) u v))
      go (inl e) = rw (eq-eqb (low_of (flow (rates_of p) u v)) 0 e) (high_rate u v past (omega arith))
      go (inr n) = rw (ne_eqb (low_of (flow (rates_of p) u v)) 0 n, add-zero) (low_rate u v past (omega arith))

  pub half_named : (half : ℕ) → half < 2 → Named (PlanFault r p) (half_not_zero r p half)
  half_named half low =
      named_joined (unused_rates r p half) (unused_reasons r p half) (PlanFault r p) refl
      (λ k h. unused_named (numerator_of p) (λ c. PlanFault r p 7 (first_word c (numerator_of p c))) first_word_named (cell_in half k) (omega arith))
      (λ k h. unused_named (said_reason p) (λ c. PlanFault r p 7 (reason_word c)) unused_reason (cell_in half k) (omega arith))

  pub base_named : Named (PlanFault r p) (base_row p.base)
  base_named i h e = base (go (le_or_lt 1 p.base) (le_or_lt p.base 4_294_967_296))
    where
      go : (1 ≤ p.base) ⊎ (p.base < 1) → (p.base ≤ 4_294_967_296) ⊎ (4_294_967_296 < p.base)
          → (p.base < 1) ⊎ (4_294_967_296 < p.base)
      go (inr l) most = inl l
      go (inl l) (inr m) = inr m
      go (inl l) (inl m) =
          absurd (true_not_false e (ap not (true_of_both (le-leb 1 p.base l) (le-leb p.base 4_294_967_296 m))))

  pub range_named : Named (PlanFault r p) (reason_range_row r p)
  range_named = flow_named ReasonRange (no_reason p) (λ u v is e. reason_range u v is (ltb-true _ _ e))

  pub above_named : Named (PlanFault r p) (above_demand_row r p)
  above_named = flow_named AboveDemand (above_demand r p) (λ u v is e. above_demand_fault u v is (ltb-true _ _ e))

  pub input_over_named : Named (PlanFault r p) (input_over_row r p)
  input_over_named i h e =
      let (used, over) = both_true (input_used r (input i)) _ e in
      input_over_fault (input i) (ltb-true i r.m used) (ltb-true _ _ over)

  pub output_over_named : Named (PlanFault r p) (output_over_row r p)
  output_over_named i h e =
      let (used, over) = both_true (output_used r (output i)) _ e in
      output_over_fault (output i) (ltb-true i r.n used) (ltb-true _ _ over)

  pub free_named : Named (PlanFault r p) (no_bottleneck_row r p)
  free_named =
      flow_named NoBottleneck (free r p)
      (λ u v is e.
      let below = ltb (flow (rates_of p) u v) (demand_of r (cell_of u v) * p.base) in
      let held = held_by below (input_holds r (rates_of p) u v) (output_holds r (rates_of p) u v) in
      no_bottleneck u v is (ltb-true _ _ (both_true below _ e).0)
      (λ neck. true_not_false e (held (inl (holds_of_bottleneck r (rates_of p) u v neck))))
      (λ neck. true_not_false e (held (inr (holds_of_output_bottleneck r (rates_of p) u v neck)))))

  pub wrong_named : Named (PlanFault r p) (wrong_reason_row r p)
  wrong_named =
      flow_named WrongReason (wrong_reason r p)
      (λ u v is e. wrong_reason_fault u v is (λ same. true_not_false e (ap not (eq-eqb _ _ same))))

  -- The request's own rows stand as they are.
  in_plan : (row : Row) → Named (Fault r) row → Named (PlanFault r p) row
  in_plan row named i h e = of_request (named i h e)

  pair_zeros_named : Named (PlanFault r p) (pair_not_zero_row r p)
  pair_zeros_named =
      named_joined (not_zero_row r) (joined (half_not_zero r p 0) (half_not_zero r p 1)) (PlanFault r p) refl
      (in_plan (not_zero_row r) (zeros_named r))
      (named_joined (half_not_zero r p 0) (half_not_zero r p 1) (PlanFault r p) refl (half_named 0 (omega arith)) (half_named 1 (omega arith)))

  pub judge_fault : (k q : ℕ) → Gives (judged r p) k q → PlanFault r p k q
  judge_fault =
      gives_named (judge_rows r p) (PlanFault r p)
      (each_cons _ (in_plan (ports_row r) (ports_named r))
      (each_cons _ (in_plan (capacity_row r) (capacities_named r))
      (each_cons _ (in_plan (demand_row r) (demands_named r))
      (each_cons _ pair_zeros_named
      (each_cons _ base_named
      (each_cons _ range_named
      (each_cons _ above_named
      (each_cons _ input_over_named
      (each_cons _ output_over_named
      (each_cons _ free_named
      (each_cons _ wrong_named (each_nil _))))))))))))
