-- The plan of a request is right, and whatever plan is right is that one; its base is within its range.
use Prim.Native.Nat.{ℕ, ◌*◌, ◌/◌, ◌≤◌, ◌<◌}
use mathlib.Core.Path.{◌≡◌, ap, ap₂, sym, ◌∙◌}
use mathlib.Core.Bool.{true}
use mathlib.Core.List.{List}
use native.Mathlib.Nat.{div-le_self, le_trans, le_antisymm, eq_of_mul-eq-mul_right}
use native.Mathlib.Omega.{arith}
use lib.Dec.{lit≤}
use lib.ListN.{length, get_or, length-map, get_or-eq_default}
use lib.Seq.{ext_get_or}
use Rattle.fairness.specs.Total.{total}
use Rattle.fairness.specs.Divisor.{gcd_of, divided, GcdOf}
use Rattle.fairness.specs.Fairness as General
use Rattle.fairness.specs.Filling.{over, filled}
use Rattle.fairness.proofs.Divisors.{gcd_of_is}
use Rattle.fairness.proofs.LeastBase.{divided_pos}
use Rattle.laws.proofs.Lists.{cells-list, length-list}
use Rattle.fairness.proofs.ProductBound.{ports_bound}
use Rattle.fairness.proofs.Existence.{fair_filled, base_fits, busy_limits_at_most, busy_weight_at_most}
use Rattle.fairness.proofs.Reduced.{reduced_same, reduced_least, length-filled}
use Rattle.fairness.proofs.Unique.{fair_of_same}
use Rattle.switch.specs.Within.{Within}
use Rattle.switch.specs.Rates.{Rates, flow, rates_of}
use Rattle.switch.specs.Fairness.{LeastBase, SameRates, Blank}
use Rattle.switch.specs.Reason.{reason_of}
use Rattle.switch.specs.Planned.{Right, problem_of, plan_from, plan_of_state, plan_of}
use Rattle.switch.specs.declared.plan.Plan.{Plan}
use Rattle.switch.specs.declared.request.Request.{Request}
use Rattle.switch.proofs.Cells.{unused_beyond}
use Rattle.switch.proofs.Sharing.{general, by_cell, blank_of_allowed}
use Rattle.switch.proofs.Agree.{blanked, agree_blanked, blank_blanked}
use Rattle.switch.proofs.Fair.{sound, fair_of_general, only_one_is_fair}

-- A base that is least for the problem is least for the request: unused cells hold 0 over any base.
pub least_of_general : (r : Request) → Within r → (a : Rates) → Blank r a → General.LeastBase (problem_of r) (general a) → LeastBase r a
least_of_general r w a blank least =
    record {
      least = λ z pos same.
          least.least (general (blanked r z)) pos
          (record {
            same =
                by_cell r (λ c. a.numerator c * z.base ≡ (blanked r z).numerator c * a.base)
                (λ u v is. rw ((agree_blanked r w z).flows u v is) at (same.same u v is))
                (λ u v hu hv past.
                omega (
                  arith,
                  ap (λ k. k * z.base) (blank.unused u v hu hv past),
                  ap (λ k. k * a.base) ((blank_blanked r w z).unused u v hu hv past),
                ));
          });
    }

-- Fair rates over their least base, laid out with their reasons, are a right plan.
pub right_plan_from : (r : Request) → Within r → (b : ℕ) (xs : List ℕ) → General.Fair (problem_of r) (over b xs)
    → General.LeastBase (problem_of r) (over b xs) → length xs ≡ 64 → Right r (plan_from r b xs)
unfolding plan_from
right_plan_from r w b xs fair least long =
    record {
      fair = fair_of_general r w rates fair;
      least = least_of_general r w rates blank least;
      blank = blank;
      reasons = λ c h. cells-list 64 (reason_of r rates) c h;
      cells = (long, length-list 64 (reason_of r rates));
    }
  where
    rates : Rates
    rates = record { base = b; numerator = λ c. get_or xs c 0 }

    blank : Blank r rates
    blank = blank_of_allowed r w rates fair.allowed

pub right_plan_of : (r : Request) → Within r → Right r (plan_of r)
unfolding plan_of plan_of_state
right_plan_of r w =
    right_plan_from r w (b / g) (divided g xs)
    (fair_of_same (problem_of r) (over b xs) (over (b / g) (divided g xs)) (divided_pos common fair.allowed.positive)
    (reduced_same (problem_of r) b g xs common) fair)
    (reduced_least (problem_of r) b g xs common fair.allowed.positive (length-filled (problem_of r)))
    (length-map xs (λ x. x / g) ∙ length-filled (problem_of r))
  where
    b : ℕ
    b = (filled (problem_of r)).base

    xs : List ℕ
    xs = (filled (problem_of r)).fixed

    g : ℕ
    g = gcd_of b xs

    common : GcdOf b xs g
    common = gcd_of_is b xs

    fair : General.Fair (problem_of r) (over b xs)
    fair = fair_filled (problem_of r) (sound r w)

-- Two right plans are the same numbers: the same rates, over the same least base, with the reasons that follow.
module _ (r : Request) (w : Within r) (p q : Plan) (right_p : Right r p) (right_q : Right r q) where
  same : SameRates r (rates_of p) (rates_of q)
  same = only_one_is_fair r w (rates_of p) (rates_of q) right_p.fair right_q.fair

  same_base : p.base ≡ q.base
  same_base =
      le_antisymm (right_p.least.least (rates_of q) right_q.fair.allocation.positive same)
      (right_q.least.least (rates_of p) right_p.fair.allocation.positive
      (record { same = λ u v is. sym (same.same u v is) }))

  same_cell : (c : ℕ) → c < 64 → get_or p.numerators c 0 ≡ get_or q.numerators c 0
  same_cell =
      by_cell r (λ c. get_or p.numerators c 0 ≡ get_or q.numerators c 0)
      (λ u v is.
      eq_of_mul-eq-mul_right p.base right_p.fair.allocation.positive _ _
      (ap (λ k. flow (rates_of p) u v * k) same_base ∙ same.same u v is))
      (λ u v hu hv past. right_p.blank.unused u v hu hv past ∙ sym (right_q.blank.unused u v hu hv past))

  same_numerators : p.numerators ≡ q.numerators
  same_numerators =
      ext_get_or 0 p.numerators q.numerators (right_p.cells.0 ∙ sym right_q.cells.0)
      (λ c h. same_cell c (rw right_p.cells.0 at h))

  same_reasons : p.reasons ≡ q.reasons
  same_reasons =
      ext_get_or 0 p.reasons q.reasons (right_p.cells.1 ∙ sym right_q.cells.1)
      (λ c h.
      let low : c < 64 = rw right_p.cells.1 at h in
      right_p.reasons c low
      ∙ ap₂ (λ b xs. reason_of r (record { base = b; numerator = λ k. get_or xs k 0 }) c) same_base same_numerators
      ∙ sym (right_q.reasons c low))

  pub right_unique : p ≡ q
  right_unique = λ i. record { base = same_base i; numerators = same_numerators i; reasons = same_reasons i }

-- Whatever plan is right for a request is its plan.
pub right_is_plan_of : (r : Request) → Within r → (p : Plan) → Right r p → p ≡ plan_of r
right_is_plan_of r w p right = right_unique r w p (plan_of r) right (right_plan_of r w)

-- A number above 63 is an unused cell, with rate 0 and reason 0.
pub beyond_the_cells : (r : Request) (p : Plan) → Right r p → (c : ℕ) → 64 ≤ c
    → (get_or p.numerators c 0 ≡ 0) × (get_or p.reasons c 0 ≡ 0) × (reason_of r (rates_of p) c ≡ 0)
beyond_the_cells r p right c h = (
  get_or-eq_default p.numerators 0 (rw right.cells.0 h),
  get_or-eq_default p.reasons 0 (rw right.cells.1 h),
  rw (unused_beyond r c h),
)

-- the 64 weights of 1 that a switch has
all_weights : total 64 (λ c. true) (λ c. 1) ≤ 64
unfolding total
all_weights = lit≤ tt

-- The base keeps to the range that the table 'Numbers' gives it.
pub base_of_plan_of : (r : Request) → Within r → (1 ≤ (plan_of r).base) × ((plan_of r).base ≤ 4_294_967_296)
unfolding plan_of plan_of_state plan_from
base_of_plan_of r w = (
  (right_plan_of r w).fair.allocation.positive,
  le_trans (div-le_self (filled (problem_of r)).base _)
      (base_fits (problem_of r) (sound r w) 16 64 4_294_967_296 (busy_limits_at_most (problem_of r))
      (le_trans (busy_weight_at_most (problem_of r)) all_weights) ports_bound),
)
