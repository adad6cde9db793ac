-- The chain in which a program asks the rows of a request with a plan says what the rows say.
use mathlib.Core.List.{[], ◌∷◌}
use mathlib.Core.Path.{◌≡◌, refl, sym, ◌∙◌, ap}
use Rattle.switch.specs.RequestRows.{ports_row, capacity_row, demand_row, not_zero_row, request_verdict}
use Rattle.switch.specs.Rows.{joined, row_verdict, or_else, verdict_of}
use Rattle.switch.specs.Within.{Within}
use Rattle.switch.specs.declared.plan.Plan.{Plan}
use Rattle.switch.specs.declared.request.Request.{Request}
use Rattle.switch.specs.declared.verdict.Verdict.{Verdict}
use Rattle.switch.specs.declared.verdict.Verdict.TheVariants.{Accepted}
use Rattle.switch.proofs.Rows.{or_else_assoc, or_else_under, accepts_both, verdict_append, joined_verdict, verdict_joined, row_accepted_exactly}
use Rattle.switch.proofs.Within.{within_of_accepted}
use Rattle.judging.specs.PlanWithin.{PlanWithin}
use Rattle.judging.specs.PlanRows.{half_not_zero, base_row, rate_rows, judged}
use Rattle.worked.specs.Worked.{rates_worked}
use Rattle.judging.proofs.Accepted.{plan_within_of_silent}
use Rattle.worked.proofs.Exact.{worked_as_defined}

-- What is worked out is heard only of a request and a plan within their limits.
pub rates_heard : (v : Verdict) (r : Request) (p : Plan) → (v ≡ Accepted → Within r × PlanWithin r p)
    → or_else v (rates_worked r p) ≡ or_else v (verdict_of (rate_rows r p))
rates_heard v r p within = or_else_under v (λ e. worked_as_defined r (within e).0 p (within e).1)

-- The verdicts of rows 7, from the plan's cells on, and 8.
pub plan_within_of_accepted : (r : Request) (p : Plan) → row_verdict (half_not_zero r p 0) ≡ Accepted
    → row_verdict (half_not_zero r p 1) ≡ Accepted → row_verdict (base_row p.base) ≡ Accepted → PlanWithin r p
plan_within_of_accepted r p first second base =
    plan_within_of_silent r p ((row_accepted_exactly (half_not_zero r p 0)).0 first)
    ((row_accepted_exactly (half_not_zero r p 1)).0 second) ((row_accepted_exactly (base_row p.base)).0 base)

module _ (r : Request) (p : Plan) where
  numbers : Verdict
  numbers = or_else (request_verdict r) (or_else (row_verdict (half_not_zero r p 0)) (row_verdict (half_not_zero r p 1)))

  numbers_as_defined : verdict_of (ports_row r ∷ capacity_row r ∷ demand_row r
      ∷ joined (not_zero_row r) (joined (half_not_zero r p 0) (half_not_zero r p 1)) ∷ []) ≡ numbers
  unfolding numbers
  numbers_as_defined =
      verdict_joined (not_zero_row r) (joined (half_not_zero r p 0) (half_not_zero r p 1)) (ports_row r ∷ capacity_row r ∷ demand_row r ∷ []) refl
      ∙ ap (or_else (request_verdict r)) (joined_verdict (half_not_zero r p 0) (half_not_zero r p 1) refl)

  within : or_else numbers (row_verdict (base_row p.base)) ≡ Accepted → Within r × PlanWithin r p
  unfolding numbers
  within e =
      let (zeros, base) = accepts_both numbers _ e in
      let (own, plan) = accepts_both (request_verdict r) _ zeros in
      let (first, second) = accepts_both (row_verdict (half_not_zero r p 0)) _ plan in
      (within_of_accepted r own, plan_within_of_accepted r p first second base)

  pub judged_as_asked : or_else (or_else (request_verdict r) (or_else (row_verdict (half_not_zero r p 0)) (row_verdict (half_not_zero r p 1))))
      (or_else (row_verdict (base_row p.base)) (rates_worked r p)) ≡ judged r p
  unfolding verdict_of numbers
  judged_as_asked =
      sym (or_else_assoc numbers (row_verdict (base_row p.base)) (rates_worked r p))
      ∙ rates_heard (or_else numbers (row_verdict (base_row p.base))) r p within
      ∙ or_else_assoc numbers (row_verdict (base_row p.base)) (verdict_of (rate_rows r p))
      ∙ ap (λ (v : Verdict). or_else v (verdict_of (base_row p.base ∷ rate_rows r p))) (sym numbers_as_defined)
      ∙ sym (verdict_append (ports_row r ∷ capacity_row r ∷ demand_row r
      ∷ joined (not_zero_row r) (joined (half_not_zero r p 0) (half_not_zero r p 1)) ∷ []) (base_row p.base ∷ rate_rows r p))

  -- The rows are asked one after the other, and the first that refuses counts.
  pub judged_by : {own first second base rates : Verdict} → own ≡ request_verdict r → first ≡ row_verdict (half_not_zero r p 0)
      → second ≡ row_verdict (half_not_zero r p 1) → base ≡ row_verdict (base_row p.base) → rates ≡ rates_worked r p
      → or_else (or_else own (or_else first second)) (or_else base rates) ≡ judged r p
  judged_by o f s b e = rw (o, f, s, b, e) judged_as_asked
