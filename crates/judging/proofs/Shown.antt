-- Everything that is to be shown of judging a plan for a request.
use Prim.Native.Nat.{ℕ, ◌<◌}
use mathlib.Core.Bool.{Bool, true, false, cond}
use mathlib.Core.List.{[], ◌∷◌}
use mathlib.Core.Path.{◌≡◌, refl, sym, ◌∙◌}
use Rattle.switch.specs.Cells.{cell_of, input_of, output_of, used_cell}
use Rattle.switch.specs.Fairness.{SameRates}
use Rattle.switch.specs.Given.{numbers_of}
use Rattle.switch.specs.Planned.{plan_of}
use Rattle.switch.specs.Rates.{Rates, rates_of}
use Rattle.switch.specs.Reason.{reason_of}
use Rattle.switch.specs.Within.{Within}
use Rattle.switch.specs.declared.plan.Plan.{Plan}
use Rattle.switch.specs.declared.request.Request.{Request}
use Rattle.switch.specs.declared.verdict.Verdict.TheVariants.{Accepted}
use Rattle.switch.proofs.Cells.{cell_below, below_of_used, unused_of_past, used_cell_of_ports, used_cell_of_cell}
use Rattle.switch.proofs.Planned.{right_plan_of, base_of_plan_of}
use Rattle.switch.proofs.Rows.{given_exactly}
use Rattle.switch.proofs.SameRates.{fair_of_same_rates, fair_exactly_planned, reason_same}
use Rattle.judging.specs.PlanRows.{judge_rows, judged}
use Rattle.judging.specs.PlanWithin.{PlanWithin, said_reason}
use Rattle.judging.specs.Shown.{Judging}
use Rattle.judging.proofs.Accepted.{judged_exactly}
use Rattle.judging.proofs.Fault.{judge_fault}
use Rattle.judging.proofs.JudgeFirst.{judge_first, judge_none}

plan_of_within : (r : Request) → Within r → PlanWithin r (plan_of r)
plan_of_within r w =
    let right = right_plan_of r w in
    record {
      base = base_of_plan_of r w;
      unused_rate = right.blank.unused;
      unused_reason = λ u v hu hv past.
          right.reasons (cell_of u v) (cell_below u v hu hv) ∙ rw (used_cell_of_cell r u v hu hv ∙ unused_of_past r u v past);
    }

plan_of_accepted : (r : Request) → Within r → judged r (plan_of r) ≡ Accepted
plan_of_accepted r w =
    let right = right_plan_of r w in
    (judged_exactly r (plan_of r)).1 (w, plan_of_within r w, record { rates = right.fair; reasons = right.reasons })

-- What counts only where a test holds has to be the same only there.
same_where : (b : Bool) {x y : ℕ} → (b ≡ true → x ≡ y) → cond b x 0 ≡ cond b y 0
same_where true same = same refl
same_where false same = refl

-- The same rates have the same reasons in every cell.
same_reasons : (r : Request) (a z : Rates) → 0 < a.base → 0 < z.base → SameRates r a z
    → (c : ℕ) → c < 64 → reason_of r a c ≡ reason_of r z c
same_reasons r a z pos_a pos_z same c h =
    same_where (used_cell r c)
    (λ e.
    let (u, v) = below_of_used r (input_of c) (output_of c) (sym (used_cell_of_ports r c h) ∙ e) in
    reason_same r a z pos_a pos_z same (input_of c) (output_of c) (record { input = u; output = v }))

over_any_base : (r : Request) (p q : Plan) → judged r p ≡ Accepted → PlanWithin r q → SameRates r (rates_of p) (rates_of q)
    → ((c : ℕ) → c < 64 → said_reason q c ≡ said_reason p c) → judged r q ≡ Accepted
over_any_base r p q accepted within same said =
    let (w, pw, fair) = (judged_exactly r p).0 accepted in
    (judged_exactly r q).1 (
      w,
      within,
      record {
        rates = fair_of_same_rates r w (rates_of p) (rates_of q) within.base.0 same fair.rates;
        reasons = λ c h.
            said c h ∙ fair.reasons c h ∙ same_reasons r (rates_of p) (rates_of q) pw.base.0 within.base.0 same c h;
      },
    )

judge_rows_in_order : (r : Request) (p : Plan)
    → numbers_of (judge_rows r p) ≡ 4 ∷ 5 ∷ 6 ∷ 7 ∷ 8 ∷ 10 ∷ 11 ∷ 12 ∷ 13 ∷ 14 ∷ 15 ∷ []
judge_rows_in_order r p = refl

pub judging_shown : Judging
judging_shown =
    record {
      accepted_exactly = judged_exactly;
      fair_exactly = λ r p w pos. fair_exactly_planned r w (rates_of p) pos;
      plan_accepted = plan_of_accepted;
      any_base = over_any_base;
      gives = λ r p. given_exactly (judge_rows r p);
      fault = judge_fault;
      first = judge_first;
      none = judge_none;
      order = judge_rows_in_order;
    }
