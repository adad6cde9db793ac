-- Every drawn plan is the plan of its request, worked out from the definition: one table, one computed test.
use Prim.Native.Nat.{ℕ}
use mathlib.Core.Bool.{Bool, true, false, ◌&&◌, false≢true}
use mathlib.Core.List.Memᴰ
use mathlib.Core.List.{List, [], ◌∷◌, Memᴰ}
use mathlib.Core.Logic.{◌⊎◌, inl, inr}
use mathlib.Core.Path.{◌≡◌, refl, ap₂, sym, subst}
use lib.Dec.{eqb}
use borrow.Author.Tests.{eqb-true}
use Rattle.fairness.specs.Total.{total}
use Rattle.fairness.specs.Divisor.{euclid, gcd, gcd_of}
use Rattle.laws.specs.Lists.{list_from, list}
use Rattle.fairness.specs.Filling.{start, lowest, next, some, stop_met, shut, free, happen, round, fill, work, filled}
use Rattle.laws.proofs.Search.{both_true}
use Rattle.switch.specs.Rates.{sum_to}
use Rattle.switch.specs.Reason.{every}
use Rattle.switch.specs.Planned.{plan_from, plan_of_state, plan_of}
use Rattle.switch.specs.Drawn.{rows, Example, drawn_plans}
use Rattle.switch.specs.declared.plan.Plan.{Plan}

same_list : List ℕ → List ℕ → Bool
same_list [] [] = true
same_list [] (y ∷ ys) = false
same_list (x ∷ xs) [] = false
same_list (x ∷ xs) (y ∷ ys) = eqb x y && same_list xs ys

list_of_same : (xs ys : List ℕ) → same_list xs ys ≡ true → xs ≡ ys
unfolding same_list
list_of_same [] [] e = refl
list_of_same [] (y ∷ ys) e = absurd (false≢true e)
list_of_same (x ∷ xs) [] e = absurd (false≢true e)
list_of_same (x ∷ xs) (y ∷ ys) e =
    let both = both_true (eqb x y) (same_list xs ys) e in
    ap₂ {B = List ℕ} (λ h t. h ∷ t) (eqb-true x y both.0) (list_of_same xs ys both.1)

same_plan : Plan → Plan → Bool
same_plan p q = eqb p.base q.base && (same_list p.numerators q.numerators && same_list p.reasons q.reasons)

plan_of_same : (p q : Plan) → same_plan p q ≡ true → p ≡ q
unfolding same_plan
plan_of_same p q e =
    let first = both_true (eqb p.base q.base) _ e in
    let rest = both_true (same_list p.numerators q.numerators) _ first.1 in
    let bases = eqb-true p.base q.base first.0 in
    let numerators = list_of_same p.numerators q.numerators rest.0 in
    let reasons = list_of_same p.reasons q.reasons rest.1 in
    λ i. record { base = bases i; numerators = numerators i; reasons = reasons i }

all_right : List Example → Bool
all_right [] = true
all_right (e ∷ rest) = same_plan (plan_of e.request) e.plan && all_right rest

right_of_all : (es : List Example) → all_right es ≡ true → (e : Example) → Memᴰ e es → plan_of e.request ≡ e.plan
unfolding all_right
right_of_all [] t e m = absurd (Memᴰ.not-nil m)
right_of_all (x ∷ rest) t e m = go (Memᴰ.cases_cons m) (right_of_all rest)
  where
    both : (same_plan (plan_of x.request) x.plan ≡ true) × (all_right rest ≡ true)
    both = both_true (same_plan (plan_of x.request) x.plan) (all_right rest) t

    go : (e ≡ x) ⊎ Memᴰ e rest
        → (all_right rest ≡ true → (e : Example) → Memᴰ e rest → plan_of e.request ≡ e.plan)
        → plan_of e.request ≡ e.plan
    go (inl q) later =
        subst (λ (y : Example). plan_of y.request ≡ y.plan) (sym q) (plan_of_same (plan_of x.request) x.plan both.0)
    go (inr n) later = later both.1 e n

tested : all_right drawn_plans ≡ true
unfolding total list_from list start lowest next some stop_met shut free happen round fill work filled
    euclid gcd gcd_of sum_to every plan_from plan_of_state plan_of rows same_list same_plan all_right drawn_plans
tested = refl

pub drawn_plans_are_right : (e : Example) → Memᴰ e drawn_plans → plan_of e.request ≡ e.plan
drawn_plans_are_right = right_of_all drawn_plans tested
