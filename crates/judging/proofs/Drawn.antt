-- Every plan of the drawn examples has the verdict that it has to have, worked out from the definition: one table, one computed
-- test.
use mathlib.Core.Bool.{Bool, true, false, ◌&&◌, false≢true}
use mathlib.Core.List.Memᴰ
use mathlib.Core.List.{List, [], ◌∷◌, Memᴰ}
use mathlib.Core.Logic.{◌⊎◌, inl, inr}
use mathlib.Core.Path.{◌≡◌, refl, sym, ap₂, subst}
use lib.Dec.{eqb}
use borrow.Author.Tests.{eqb-true}
use Rattle.laws.proofs.Search.{both_true}
use Rattle.switch.specs.Drawn.{rows}
use Rattle.switch.specs.Numbering.{number_of}
use Rattle.switch.specs.Rates.{sum_to}
use Rattle.switch.specs.Reason.{every}
use Rattle.switch.specs.Rows.{first_from, refusal, row_verdict, verdict_of}
use Rattle.switch.specs.declared.verdict.Verdict.{Verdict}
use Rattle.switch.specs.declared.verdict.Verdict.TheVariants.{Accepted, Refused}
use Rattle.switch.proofs.Numbering.{number_injective}
use Rattle.judging.specs.Drawn.{Offered, offered}
use Rattle.judging.specs.PlanRows.{judged}

same_verdict : Verdict → Verdict → Bool
same_verdict Accepted Accepted = true
same_verdict Accepted (Refused y) = false
same_verdict (Refused x) Accepted = false
same_verdict (Refused x) (Refused y) = eqb (number_of x.cause) (number_of y.cause) && eqb x.place y.place

verdict_of_same : (a b : Verdict) → same_verdict a b ≡ true → a ≡ b
unfolding same_verdict
verdict_of_same Accepted Accepted e = refl
verdict_of_same Accepted (Refused y) e = absurd (false≢true e)
verdict_of_same (Refused x) Accepted e = absurd (false≢true e)
verdict_of_same (Refused x) (Refused y) e =
    let both = both_true (eqb (number_of x.cause) (number_of y.cause)) (eqb x.place y.place) e in
    ap₂ refusal (number_injective x.cause y.cause (eqb-true _ _ both.0)) (eqb-true _ _ both.1)

all_judged : List Offered → Bool
all_judged [] = true
all_judged (o ∷ rest) = same_verdict (judged o.request o.plan) o.verdict && all_judged rest

judged_of_all : (os : List Offered) → all_judged os ≡ true → (o : Offered) → Memᴰ o os → judged o.request o.plan ≡ o.verdict
unfolding all_judged
judged_of_all [] t o m = absurd (Memᴰ.not-nil m)
judged_of_all (x ∷ rest) t o m = go (Memᴰ.cases_cons m) (judged_of_all rest)
  where
    both : (same_verdict (judged x.request x.plan) x.verdict ≡ true) × (all_judged rest ≡ true)
    both = both_true (same_verdict (judged x.request x.plan) x.verdict) (all_judged rest) t

    go : (o ≡ x) ⊎ Memᴰ o rest
        → (all_judged rest ≡ true → (o : Offered) → Memᴰ o rest → judged o.request o.plan ≡ o.verdict)
        → judged o.request o.plan ≡ o.verdict
    go (inl q) later =
        subst (λ (y : Offered). judged y.request y.plan ≡ y.verdict) (sym q) (verdict_of_same _ _ both.0)
    go (inr n) later = later both.1 o n

tested : all_judged offered ≡ true
unfolding sum_to every first_from row_verdict verdict_of rows offered same_verdict all_judged
tested = refl

pub drawn_verdicts : (o : Offered) → Memᴰ o offered → judged o.request o.plan ≡ o.verdict
drawn_verdicts = judged_of_all offered tested
