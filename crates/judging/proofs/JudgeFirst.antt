-- What is refused of a request with its plan is its first fault: no fault has a lower number, and none of the same number a lower
-- place; and what is accepted has none.
use Prim.Native.Nat.{ℕ, ◌+◌, ◌*◌, ◌≤◌}
use mathlib.Core.Path.{◌≡◌, refl}
use native.Mathlib.Omega.{arith}
use Rattle.switch.specs.Given.{Gives, NoLater}
use Rattle.switch.specs.RequestRows.{not_zero_row}
use Rattle.switch.specs.Rows.{joined}
use Rattle.switch.specs.declared.plan.Plan.{Plan}
use Rattle.switch.specs.declared.request.Request.{Request}
use Rattle.switch.specs.declared.verdict.Verdict.TheVariants.{Accepted}
use Rattle.switch.proofs.First.{ascending, first_of_noticed, none_of_noticed}
use Rattle.switch.proofs.Noticed.{limits_rising, zeros_rising}
use Rattle.switch.proofs.Rising.{Rising, rising_joined}
use Rattle.switch.proofs.Rows.{Each, each_cons}
use Rattle.judging.specs.Fault.{PlanFault}
use Rattle.judging.specs.PlanRows.{unused_rates, unused_reasons, half_not_zero, judge_rows, judged}
use Rattle.judging.proofs.Noticed.{rates_rising, reasons_rising, base_rising, range_rising, fair_rising, judge_noticed}

module _ (r : Request) (p : Plan) where
  pub half_rising : {low high : ℕ} (half : ℕ) → low ≤ 128 * (1 + half) + 3 → 128 * (1 + half) + 75 ≤ high
      → Rising low high (half_not_zero r p half)
  half_rising half l h =
      rising_joined (unused_rates r p half) (unused_reasons r p half) (128 * (1 + half) + 67) (rates_rising r p half l h)
      (reasons_rising r p half l h)

  judge_rising : Each (Rising 0 383) (judge_rows r p)
  judge_rising =
      limits_rising r (omega arith)
      (each_cons _
      (rising_joined (not_zero_row r) (joined (half_not_zero r p 0) (half_not_zero r p 1)) 83 (zeros_rising r (omega arith))
      (rising_joined (half_not_zero r p 0) (half_not_zero r p 1) 203 (half_rising 0 (omega arith) (omega arith))
      (half_rising 1 (omega arith) (omega arith))))
      (each_cons _ (base_rising r p) (each_cons _ (range_rising r p) (fair_rising r p))))

  pub judge_first : (k q : ℕ) → Gives (judged r p) k q → (k' q' : ℕ) → PlanFault r p k' q' → NoLater k q k' q'
  unfolding ascending
  judge_first = first_of_noticed (judge_rows r p) (PlanFault r p) (judge_noticed r p) refl judge_rising

  pub judge_none : judged r p ≡ Accepted → (k q : ℕ) → PlanFault r p k q → ⊥
  judge_none = none_of_noticed (judge_rows r p) (PlanFault r p) (judge_noticed r p)
