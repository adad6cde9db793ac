-- Fair rates, reduced and with their reasons, are the plan of the request.
use Prim.Native.Nat.{ℕ, ◌/◌, ◌≤◌, ◌<◌}
use mathlib.Core.Path.{◌≡◌, ◌∙◌}
use mathlib.Core.List.{List}
use native.Mathlib.Nat.{div-le_self, le_trans}
use native.Mathlib.Omega.{arith}
use lib.ListN.{length, length-map}
use Rattle.fairness.specs.Divisor.{gcd_of, GcdOf}
use Rattle.fairness.specs.Fairness as General
use Rattle.fairness.specs.Filling.{over}
use Rattle.fairness.proofs.Divisors.{gcd_of_is}
use Rattle.fairness.proofs.LeastBase.{divided_pos}
use Rattle.fairness.proofs.Reduced.{reduced_same, reduced_least}
use Rattle.fairness.proofs.Unique.{fair_of_same}
use Rattle.switch.specs.Planned.{Right, problem_of, plan_from, plan_of}
use Rattle.switch.specs.Within.{Within}
use Rattle.switch.specs.declared.request.Request.{Request}
use Rattle.switch.proofs.Planned.{right_plan_from, right_is_plan_of}
use Rattle.worked.specs.Reason.{reasons_at}
use Rattle.worked.specs.Reduced.{reduced_base, reduced_numerators}
use Rattle.worked.proofs.Bottlenecks.{reasons_right}
use Rattle.planner.specs.Sizes.{most_base}
use Rattle.planner.specs.Ports.{ports_of}
use Rattle.planner.proofs.Ports.{fair_ports}

module _ (r : Request) (within : Within r) (b : ℕ) (xs : List ℕ) (small : b ≤ most_base) (long : length xs ≡ 64)
    (fair : General.Fair (ports_of r) (over b xs)) where
  common : GcdOf b xs (gcd_of b xs)
  common = gcd_of_is b xs

  positive : 0 < b
  positive = fair.allowed.positive

  reduced_fair : General.Fair (problem_of r) (over (reduced_base b xs) (reduced_numerators b xs))
  reduced_fair =
      fair_of_same (problem_of r) (over b xs) (over (reduced_base b xs) (reduced_numerators b xs)) (divided_pos common positive)
      (reduced_same (problem_of r) b (gcd_of b xs) xs common) (fair_ports r (over b xs) fair)

  least : reduced_base b xs ≤ most_base
  least = le_trans (div-le_self b (gcd_of b xs)) small

  right : Right r (plan_from r (reduced_base b xs) (reduced_numerators b xs))
  right =
      right_plan_from r within (reduced_base b xs) (reduced_numerators b xs) reduced_fair
      (reduced_least (problem_of r) b (gcd_of b xs) xs common positive long) (length-map xs (λ x. x / gcd_of b xs) ∙ long)

  with_reasons : (reasons : List ℕ)
      → reasons ≡ reasons_at r.m r.n r.inputs r.demands (reduced_base b xs) (reduced_numerators b xs)
      → record { base = reduced_base b xs; numerators = reduced_numerators b xs; reasons = reasons }
      ≡ plan_from r (reduced_base b xs) (reduced_numerators b xs)
  unfolding plan_from
  with_reasons reasons e =
      let same = e ∙ reasons_right r within (reduced_base b xs) (reduced_numerators b xs) (omega (arith, least)) in
      λ i. record { base = reduced_base b xs; numerators = reduced_numerators b xs; reasons = same i }

  pub plan_of_fair : (reasons : List ℕ)
      → reasons ≡ reasons_at r.m r.n r.inputs r.demands (reduced_base b xs) (reduced_numerators b xs)
      → record { base = reduced_base b xs; numerators = reduced_numerators b xs; reasons = reasons } ≡ plan_of r
  plan_of_fair reasons e = with_reasons reasons e ∙ right_is_plan_of r within _ right
