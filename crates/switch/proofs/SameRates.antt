-- The same rates over another base: they are as fair as before, with the same bottlenecks and the same reasons.
use Prim.Native.Nat.{ℕ, zero, suc, ◌*◌, ◌<◌}
use mathlib.Core.Bool.{Bool, true, false, cond}
use mathlib.Core.Logic.{◌↔◌}
use mathlib.Core.Path.{◌≡◌, refl, sym, ap, ap₂}
use native.Mathlib.Nat.{mul-le-mul_right, le_of_mul-le-mul_right, lt_of_mul-lt-mul_right, eq_of_mul-eq-mul_right, mul-lt-mul_of_pos_right}
use native.Mathlib.Omega.{arith}
use borrow.Author.Tests.{eq-eqb, eqb-true}
use Rattle.fairness.proofs.Unique.{fair_of_same}
use Rattle.switch.specs.Cells.{output, cell_of, demand_of}
use Rattle.switch.specs.Fairness.{Used, Fair, InputBottleneck, SameRates}
use Rattle.switch.specs.Planned.{problem_of, plan_of}
use Rattle.switch.specs.Rates.{Rates, flow, rates_of, sum_to}
use Rattle.switch.specs.Reason.{at_demand, input_holds, flow_reason}
use Rattle.switch.specs.Within.{Within}
use Rattle.switch.specs.declared.port.Input.{Input}
use Rattle.switch.specs.declared.port.Output.{Output}
use Rattle.switch.specs.declared.request.Request.{Request}
use Rattle.switch.proofs.Agree.{agree_sym, agree_fair, blanked, agree_blanked, blank_blanked}
use Rattle.switch.proofs.Fair.{general_of_fair, fair_of_general, only_one_is_fair}
use Rattle.switch.proofs.Planned.{right_plan_of}
use Rattle.switch.proofs.Reason.{bottleneck_of_holds, holds_of_bottleneck}
use Rattle.switch.proofs.Sharing.{general, by_cell}

pub same_back : (r : Request) (a z : Rates) → SameRates r a z → SameRates r z a
same_back r a z same = record { same = λ u v is. sym (same.same u v is) }

module _ (r : Request) (w : Within r) where
  pub fair_of_same_rates : (a z : Rates) → 0 < z.base → SameRates r a z → Fair r a → Fair r z
  fair_of_same_rates a z pos same fair =
      agree_fair r (blanked r z) z (agree_sym r z (blanked r z) (agree_blanked r w z))
      (fair_of_general r w (blanked r z)
      (fair_of_same (problem_of r) (general (blanked r a)) (general (blanked r z)) pos
      (record {
        same =
            by_cell r (λ c. (blanked r a).numerator c * z.base ≡ (blanked r z).numerator c * a.base)
            (λ u v is. rw ((agree_blanked r w a).flows u v is, (agree_blanked r w z).flows u v is) at (same.same u v is))
            (λ u v hu hv past.
            omega (
              arith,
              ap (λ k. k * z.base) ((blank_blanked r w a).unused u v hu hv past),
              ap (λ k. k * a.base) ((blank_blanked r w z).unused u v hu hv past),
            ));
      })
      (general_of_fair r w (blanked r a) (blank_blanked r w a) (agree_fair r a (blanked r a) (agree_blanked r w a) fair))))

  -- Fair rates are the rates of the request's plan, and no others.
  pub fair_exactly_planned : (a : Rates) → 0 < a.base → Fair r a ↔ SameRates r a (rates_of (plan_of r))
  fair_exactly_planned a pos =
      let fair = (right_plan_of r w).fair in (
        λ own. only_one_is_fair r w a (rates_of (plan_of r)) own fair,
        λ same. fair_of_same_rates (rates_of (plan_of r)) a pos (same_back r a (rates_of (plan_of r)) same) fair,
      )

-- Sums of numbers that are in one proportion are in that proportion.
sum_same : (n j k : ℕ) (f g : ℕ → ℕ) → ((i : ℕ) → i < n → f i * k ≡ g i * j) → sum_to n f * k ≡ sum_to n g * j
unfolding sum_to
sum_same zero j k f g h = omega arith
sum_same (suc n) j k f g h = omega (arith, sum_same n j k f g (λ i l. h i (omega arith)), h n (omega arith))

module _ (r : Request) (a z : Rates) (pos : 0 < a.base) (same : SameRates r a z) (u : Input) (v : Output) (is : Used r u v) where
  met_same : flow a u v ≡ demand_of r (cell_of u v) * a.base → flow z u v ≡ demand_of r (cell_of u v) * z.base
  met_same e = eq_of_mul-eq-mul_right a.base pos _ _ (omega (arith, same.same u v is, ap (λ k. k * z.base) e))

  bottleneck_same : 0 < z.base → InputBottleneck r a u v → InputBottleneck r z u v
  bottleneck_same pos_z neck =
      let total = sum_same r.n a.base z.base (λ k. flow a u (output k)) (λ k. flow z u (output k))
      (λ k h. same.same u (output k) (record { input = is.input; output = h })) in
      record {
        below =
            lt_of_mul-lt-mul_right a.base
            (omega (arith, same.same u v is, mul-lt-mul_of_pos_right neck.below pos_z));
        full = eq_of_mul-eq-mul_right a.base pos _ _ (omega (arith, total, ap (λ k. k * z.base) neck.full));
        greatest = λ v' h.
            le_of_mul-le-mul_right {k = a.base}
            (omega (
              arith,
              same.same u v is,
              same.same u v' (record { input = is.input; output = h }),
              mul-le-mul_right z.base (neck.greatest v' h),
            )) pos;
      }

same_test : (b c : Bool) → (b ≡ true → c ≡ true) → (c ≡ true → b ≡ true) → b ≡ c
same_test true c there back = sym (there refl)
same_test false true there back = back refl
same_test false false there back = refl

-- The reason of a flow is one of its rate and not of the base.
pub reason_same : (r : Request) (a z : Rates) → 0 < a.base → 0 < z.base → SameRates r a z → (u : Input) (v : Output) → Used r u v
    → flow_reason r a u v ≡ flow_reason r z u v
reason_same r a z pos_a pos_z same u v is =
    let back = same_back r a z same in
    let met = same_test (at_demand r a u v) (at_demand r z u v)
    (λ e. eq-eqb _ _ (met_same r a z pos_a same u v is (eqb-true _ _ e)))
    (λ e. eq-eqb _ _ (met_same r z a pos_z back u v is (eqb-true _ _ e))) in
    let held = same_test (input_holds r a u v) (input_holds r z u v)
    (λ e. holds_of_bottleneck r z u v (bottleneck_same r a z pos_a same u v is pos_z (bottleneck_of_holds r a u v e)))
    (λ e. holds_of_bottleneck r a u v (bottleneck_same r z a pos_z back u v is pos_a (bottleneck_of_holds r z u v e))) in
    ap₂ (λ b c. cond b 0 (cond c 1 2)) met held
