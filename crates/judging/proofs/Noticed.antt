-- Every fault of a request with a plan is noticed by the rows that judge it, so that what is refused is the first fault.
use Prim.Native.Nat.{ℕ, ◌+◌, ◌*◌, ◌≤◌, ◌<◌}
use mathlib.Core.Bool.{Bool, true, false, cond, not}
use mathlib.Core.List.{[], ◌∷◌}
use mathlib.Core.Logic.{◌⊎◌, inl, inr}
use mathlib.Core.Path.{◌≡◌, refl, ◌∙◌, ap, ap₂}
use native.Mathlib.Nat.{add-zero}
use native.Mathlib.Omega.{arith}
use lib.Dec.{eqb}
use borrow.Author.Tests.{ne_eqb, lt-ltb}
use Rattle.laws.proofs.Search.{le_or_lt, true_of_both}
use Rattle.switch.specs.Cells.{cell_of, used_cell}
use Rattle.switch.specs.Fairness.{Used}
use Rattle.switch.specs.Numbering.{number_of}
use Rattle.switch.specs.Rates.{flow, rates_of}
use Rattle.switch.specs.Reason.{input_holds, output_holds}
use Rattle.switch.specs.RequestRows.{above, not_zero_row, request_rows}
use Rattle.switch.specs.Rows.{Row, joined}
use Rattle.switch.specs.declared.plan.Plan.{Plan}
use Rattle.switch.specs.declared.port.Input.{Input}
use Rattle.switch.specs.declared.port.Output.{Output}
use Rattle.switch.specs.declared.request.Request.{Request}
use Rattle.switch.specs.declared.verdict.Cause.{Cause}
use Rattle.switch.specs.declared.verdict.Cause.TheVariants.{ReasonRange, AboveDemand, NoBottleneck, WrongReason}
use Rattle.switch.proofs.Cells.{cell_below, input_of_cell, output_of_cell, used_of_below, used_cell_of_cell}
use Rattle.switch.proofs.First.{Onward, Noticed}
use Rattle.switch.proofs.Noticed.{outside_of, not_zero_of, request_noticed, request_among}
use Rattle.switch.proofs.Reason.{bottleneck_of_holds, output_bottleneck_of_holds}
use Rattle.switch.proofs.Rising.{Rising, rising_steps}
use Rattle.switch.proofs.Rows.{Each, each_nil, each_cons, each_here, each_after, each_after_three, Named, named_first, named_second}
use Rattle.judging.specs.Fault.{Unused, PlanFault, of_request, low_rate, high_rate, unused_reason, base, reason_range, above_demand_fault}
use Rattle.judging.specs.Fault.{input_over_fault, output_over_fault, no_bottleneck, wrong_reason_fault}
use Rattle.judging.specs.Places.{low_of, high_word, reason_word}
use Rattle.judging.specs.PlanWithin.{said_reason}
use Rattle.judging.specs.PlanRows.{numerator_of, cell_in, first_word, unused_rates, unused_reasons, half_not_zero, base_row, flow_row}
use Rattle.judging.specs.PlanRows.{no_reason, reason_range_row, above_demand, above_demand_row, input_over_row, output_over_row, free, no_bottleneck_row}
use Rattle.judging.specs.PlanRows.{wrong_reason, wrong_reason_row, fair_rows, rate_rows, judge_rows}
use Rattle.judging.proofs.Accepted.{by_half, free_of}

false_of_not : (b : Bool) → (b ≡ true → ⊥) → b ≡ false
false_of_not true n = absurd (n refl)
false_of_not false n = refl

at_most_one : (b : Bool) → cond b 1 0 ≤ 1
at_most_one true = omega arith
at_most_one false = omega arith

-- What holds of the offenders of these rows, and of all that comes no earlier, holds of every fault.
module _ (r : Request) (p : Plan) (Q : ℕ → ℕ → Type 0) (on : Onward Q) (request : Each (Named Q) (request_rows r))
    (first : Named Q (half_not_zero r p 0)) (second : Named Q (half_not_zero r p 1)) (based : Named Q (base_row p.base))
    (rates : Each (Named Q) (rate_rows r p)) where
  -- more than eight ports are noticed before anything that comes after row 4
  at_most_eight : (k q : ℕ) → 4 < k → (r.m ≤ 8 → r.n ≤ 8 → Q k q) → Q k q
  at_most_eight k q l said = go (le_or_lt r.m 8) (le_or_lt r.n 8)
    where
      go : (r.m ≤ 8) ⊎ (8 < r.m) → (r.n ≤ 8) ⊎ (8 < r.n) → Q k q
      go (inl m) (inl n) = said m n
      go (inr m) n = on 4 1 k q (inl l) (each_here _ request 0 (omega arith) (outside_of 8 r.m (inr m)))
      go (inl m) (inr n) = on 4 2 k q (inl l) (each_here _ request 1 (omega arith) (outside_of 8 r.n (inr n)))

  flow_noticed : (cause : Cause) (test : Input → Output → Bool) → 4 < number_of cause → Named Q (flow_row cause r test)
      → (u : Input) (v : Output) → Used r u v → test u v ≡ true → Q (number_of cause) (cell_of u v)
  flow_noticed cause test l named u v is e =
      at_most_eight (number_of cause) (cell_of u v) l
      (λ m n.
      let hu : u.0 < 8 = omega (arith, is.input) in
      let hv : v.0 < 8 = omega (arith, is.output) in
      named (cell_of u v) (cell_below u v hu hv)
      (true_of_both (used_cell_of_cell r u v hu hv ∙ used_of_below r u v is.input is.output)
      (ap₂ test (input_of_cell u v hu hv) (output_of_cell u v hv) ∙ e)))

  -- A number of an unused cell that is not 0, in either half of the plan: of a rate, the first word that is not 0; of a reason,
  -- its word.
  unused_noticed : (f place : ℕ → ℕ)
      → ((k : ℕ) → k < 32 → above (not (used_cell r (cell_in 0 k))) 0 (f (cell_in 0 k)) ≡ true → Q 7 (place (cell_in 0 k)))
      → ((k : ℕ) → k < 32 → above (not (used_cell r (cell_in 1 k))) 0 (f (cell_in 1 k)) ≡ true → Q 7 (place (cell_in 1 k)))
      → (u : Input) (v : Output) → Unused r u v → 0 < f (cell_of u v) → Q 7 (place (cell_of u v))
  unused_noticed f place first second u v (hu, hv, past) more =
      by_half r (λ c. above (not (used_cell r c)) 0 (f c) ≡ true → Q 7 (place c)) first second (cell_of u v) (cell_below u v hu hv)
      (not_zero_of r u v _ hu hv past more)

  rate_noticed : (u : Input) (v : Output) → Unused r u v → 0 < flow (rates_of p) u v
      → Q 7 (first_word (cell_of u v) (flow (rates_of p) u v))
  rate_noticed =
      unused_noticed (numerator_of p) (λ c. first_word c (numerator_of p c))
      (named_first (unused_rates r p 0) (unused_reasons r p 0) Q first)
      (named_first (unused_rates r p 1) (unused_reasons r p 1) Q second)

  over_inputs : Each (Named Q) (input_over_row r p ∷ output_over_row r p ∷ no_bottleneck_row r p ∷ wrong_reason_row r p ∷ [])
  over_inputs = each_after _ (each_after _ rates)

  necks : Each (Named Q) (no_bottleneck_row r p ∷ wrong_reason_row r p ∷ [])
  necks = each_after _ (each_after _ over_inputs)

  pub plan_noticed : {k q : ℕ} → PlanFault r p k q → Q k q
  plan_noticed (of_request {k} {q} f) = request_noticed r Q on request k q f
  plan_noticed (low_rate u v past more) =
      rw (ne_eqb (low_of (flow (rates_of p) u v)) 0 (λ e. omega arith), add-zero) at (rate_noticed u v past (omega arith))
  plan_noticed (high_rate u v past more) =
      let x = flow (rates_of p) u v in
      on 7 (first_word (cell_of u v) x) 7 (high_word (cell_of u v)) (inr (refl, omega (arith, at_most_one (eqb (low_of x) 0))))
      (rate_noticed u v past (omega arith))
  plan_noticed (unused_reason u v past more) =
      unused_noticed (said_reason p) reason_word (named_second (unused_rates r p 0) (unused_reasons r p 0) Q refl first)
      (named_second (unused_rates r p 1) (unused_reasons r p 1) Q refl second) u v past more
  plan_noticed (base h) = based 0 (omega arith) (outside_of 4_294_967_296 p.base h)
  plan_noticed (reason_range u v is h) =
      flow_noticed ReasonRange (no_reason p) (omega arith) (each_here _ rates) u v is (lt-ltb _ _ h)
  plan_noticed (above_demand_fault u v is h) =
      flow_noticed AboveDemand (above_demand r p) (omega arith) (each_here _ (each_after _ rates)) u v is (lt-ltb _ _ h)
  plan_noticed (input_over_fault u used h) =
      at_most_eight 12 u.0 (omega arith)
      (λ m n. each_here _ over_inputs u.0 (omega arith) (true_of_both (lt-ltb _ _ used) (lt-ltb _ _ h)))
  plan_noticed (output_over_fault v used h) =
      at_most_eight 13 v.0 (omega arith)
      (λ m n. each_here _ (each_after _ over_inputs) v.0 (omega arith) (true_of_both (lt-ltb _ _ used) (lt-ltb _ _ h)))
  plan_noticed (no_bottleneck u v is h input output) =
      flow_noticed NoBottleneck (free r p) (omega arith) (each_here _ necks) u v is
      (free_of (lt-ltb _ _ h)
      (false_of_not (input_holds r (rates_of p) u v) (λ e. input (bottleneck_of_holds r (rates_of p) u v e)))
      (false_of_not (output_holds r (rates_of p) u v) (λ e. output (output_bottleneck_of_holds r (rates_of p) u v e))))
  plan_noticed (wrong_reason_fault u v is n) =
      flow_noticed WrongReason (wrong_reason r p) (omega arith) (each_here _ (each_after _ necks)) u v is (ap not (ne_eqb _ _ n))

module _ (r : Request) (p : Plan) where
  -- The words of a half's numerators rise, and after them those of its reasons.
  module _ {low high : ℕ} (half : ℕ) (l : low ≤ 128 * (1 + half) + 3) (h : 128 * (1 + half) + 75 ≤ high) where
    pub rates_rising : Rising low (128 * (1 + half) + 67) (unused_rates r p half)
    rates_rising =
        record {
          bounds = omega arith;
          places = λ i j before below.
              let one = high_or_low i in
              let other = high_or_low j in
              (omega arith, up i j before below (le_or_lt j i), omega arith);
        }
      where
        high_or_low : (k : ℕ) → cond (eqb (low_of (numerator_of p (cell_in half k))) 0) 1 0 ≤ 1
        high_or_low k = at_most_one (eqb (low_of (numerator_of p (cell_in half k))) 0)

        up : (i j : ℕ) → i ≤ j → j < 32 → (j ≤ i) ⊎ (i < j) → (unused_rates r p half).place i ≤ (unused_rates r p half).place j
        up i j before below (inl k) = let e : i ≡ j = omega arith in rw e (omega arith)
        up i j before below (inr k) = let one = high_or_low i in omega arith

    pub reasons_rising : Rising (128 * (1 + half) + 67) high (unused_reasons r p half)
    reasons_rising =
        record { bounds = omega arith; places = λ i j before below. (omega arith, omega arith, omega arith) }

  -- Places that are cells, inputs or outputs are the numbers of these.
  by_number : (row : Row) → ((i : ℕ) → row.place i ≡ i) → row.size ≤ 64 → Rising 0 383 row
  by_number row is h = rising_steps row 0 1 (λ i. is i ∙ omega arith) (omega arith) (omega arith)

  pub base_rising : Rising 0 383 (base_row p.base)
  base_rising = rising_steps (base_row p.base) 129 0 (λ i. omega arith) (omega arith) (omega arith)

  pub range_rising : Rising 0 383 (reason_range_row r p)
  range_rising = by_number (reason_range_row r p) (λ i. refl) (omega arith)

  pub fair_rising : Each (Rising 0 383) (fair_rows r p)
  fair_rising =
      each_cons _ (by_number (above_demand_row r p) (λ i. refl) (omega arith))
      (each_cons _ (by_number (input_over_row r p) (λ i. refl) (omega arith))
      (each_cons _ (by_number (output_over_row r p) (λ i. refl) (omega arith))
      (each_cons _ (by_number (no_bottleneck_row r p) (λ i. refl) (omega arith))
      (each_cons _ (by_number (wrong_reason_row r p) (λ i. refl) (omega arith)) (each_nil _)))))

  pub judge_noticed : Noticed (judge_rows r p) (PlanFault r p)
  judge_noticed Q on all k q =
      let first = half_not_zero r p 0 in
      let second = half_not_zero r p 1 in
      let after = each_after_three _ all in
      let zeros = each_here _ after in
      let plan = named_second (not_zero_row r) (joined first second) Q refl zeros in
      plan_noticed r p Q on (request_among r (Named Q) all (named_first (not_zero_row r) (joined first second) Q zeros))
      (named_first first second Q plan) (named_second first second Q refl plan)
      (each_here _ (each_after _ after)) (each_after _ (each_after _ after))
