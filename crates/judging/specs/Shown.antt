-- What is shown of judging a plan for a request, in one place: with `PlanRows`, the file to read. The second demand asks for it.
use Rattle.std.specs.Prelude.{ℕ, ◌<◌, ◌↔◌, [], ◌∷◌, ◌≡◌}
use Rattle.switch.specs.Fairness.{Fair, SameRates}
use Rattle.switch.specs.Given.{Applies, Gives, NoLater, numbers_of}
use Rattle.switch.specs.Numbering.{number_of}
use Rattle.switch.specs.Planned.{plan_of}
use Rattle.switch.specs.Rates.{rates_of}
use Rattle.switch.specs.Reason.{reason_of}
use Rattle.switch.specs.Rows.{Row}
use Rattle.switch.specs.Within.{Within}
use Rattle.switch.specs.declared.plan.Plan.{Plan}
use Rattle.switch.specs.declared.request.Request.{Request}
use Rattle.switch.specs.declared.verdict.Verdict.TheVariants.{Accepted}
use Rattle.judging.specs.Fault.{PlanFault}
use Rattle.judging.specs.PlanWithin.{PlanWithin, said_reason}
use Rattle.judging.specs.PlanRows.{judge_rows, judged}

-- The plan's rates are fair, and every cell has the reason that is defined.
pub record FairPlan (r : Request) (p : Plan) : Type 0 where
  pub rates : Fair r (rates_of p)
  pub reasons : (c : ℕ) → c < 64 → said_reason p c ≡ reason_of r (rates_of p) c

pub record Judging : Type 0 where
  -- a plan is accepted exactly when its request and its own numbers are within their limits, its rates fair, its reasons right
  pub accepted_exactly : (r : Request) (p : Plan) → (judged r p ≡ Accepted) ↔ (Within r × PlanWithin r p × FairPlan r p)
  -- rates are fair exactly when they are those of the request's plan, over whatever base
  pub fair_exactly : (r : Request) (p : Plan) → Within r → 0 < p.base
      → Fair r (rates_of p) ↔ SameRates r (rates_of p) (rates_of (plan_of r))
  -- the request's plan is accepted,
  pub plan_accepted : (r : Request) → Within r → judged r (plan_of r) ≡ Accepted
  -- and so is every plan that gives the same rates over another base in range, with the same reasons
  pub any_base : (r : Request) (p q : Plan) → judged r p ≡ Accepted → PlanWithin r q → SameRates r (rates_of p) (rates_of q)
      → ((c : ℕ) → c < 64 → said_reason q c ≡ said_reason p c) → judged r q ≡ Accepted
  -- number k at place p is given exactly when a row of that number applies there and no row before it applies
  pub gives : (r : Request) (p : Plan) (k q : ℕ)
      → Gives (judged r p) k q ↔ ((row : Row) × Applies (judge_rows r p) row q × (number_of row.cause ≡ k))
  -- what a refusal names is there, in the place that it names
  pub fault : (r : Request) (p : Plan) (k q : ℕ) → Gives (judged r p) k q → PlanFault r p k q
  -- and is the first: no fault has a lower number, and none of the same number a lower place
  pub first : (r : Request) (p : Plan) (k q : ℕ) → Gives (judged r p) k q → (k' q' : ℕ) → PlanFault r p k' q' → NoLater k q k' q'
  -- what is accepted has no fault
  pub none : (r : Request) (p : Plan) → judged r p ≡ Accepted → (k q : ℕ) → PlanFault r p k q → ⊥
  -- the rows are the table's, in its order; 9 speaks of files only
  pub order : (r : Request) (p : Plan)
      → numbers_of (judge_rows r p) ≡ 4 ∷ 5 ∷ 6 ∷ 7 ∷ 8 ∷ 10 ∷ 11 ∷ 12 ∷ 13 ∷ 14 ∷ 15 ∷ []
