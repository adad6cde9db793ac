-- Rates over their least base: dividing by the common divisor reaches it, and only one allocation has it.
use Prim.Native.Nat.{ℕ, zero, suc, ◌*◌, ◌/◌, ◌<◌}
use mathlib.Core.Path.{◌≡◌, ap, sym}
use mathlib.Core.Bool.{Bool, true, false}
use mathlib.Core.List.{List}
use native.Mathlib.Nat.{div-mul_cancel}
use native.Mathlib.Omega.{arith}
use lib.Dec.{eqb}
use lib.ListN.{length, get_or}
use Rattle.fairness.specs.Problem.{Problem}
use Rattle.fairness.specs.Fairness.{Allocation, SameRates, LeastBase}
use Rattle.fairness.specs.Divisor.{divided, GcdOf}
use Rattle.fairness.specs.Filling.{State, Event, nothing, fills, reaches, over, start, next, some, meets}
use Rattle.fairness.specs.Filling.{stop_met, shut, free, happen, round, fill, work, filled}
use Rattle.fairness.proofs.LeastBase.{divided_same, divided-le, least_unique, get_or-divided}
use Rattle.laws.proofs.Lists.{length-list}

module _ (P : Problem) (b g : ℕ) (xs : List ℕ) (common : GcdOf b xs g) where
  pub reduced_same : SameRates P (over b xs) (over (b / g) (divided g xs))
  reduced_same =
      record { same = λ c hc. rw (get_or-divided xs g c) (sym (divided_same common c)) }

  pub reduced_least : 0 < b → length xs ≡ P.flows → LeastBase P (over (b / g) (divided g xs))
  reduced_least pos long =
      record { least = λ z pos_z same. divided-le common pos z.base z.numerator pos_z (λ i h. unreduced z i (same.same i (omega arith))) }
    where
      unreduced : (z : Allocation) (i : ℕ) → get_or (divided g xs) i 0 * z.base ≡ z.numerator i * (b / g)
          → get_or xs i 0 * z.base ≡ z.numerator i * b
      unreduced z i e =
          omega (
            arith,
            ap (λ k. k * g) (rw (get_or-divided xs g i) at e),
            ap (λ k. k * z.base) (div-mul_cancel g (common.each i)),
            ap (λ k. z.numerator i * k) (div-mul_cancel g common.base),
          )

pub same_of_least : (P : Problem) (a z : Allocation) → 0 < a.base → 0 < z.base → SameRates P a z → LeastBase P a → LeastBase P z
    → (a.base ≡ z.base) × ((c : ℕ) → c < P.flows → a.numerator c ≡ z.numerator c)
same_of_least P a z pos_a pos_z same least_a least_z =
    least_unique P.flows a.base z.base a.numerator z.numerator pos_a same.same
    (least_a.least z pos_z same) (least_z.least a pos_a (record { same = λ c hc. sym (same.same c hc) }))

-- Every state of a filling holds as many numbers as there are flows.
length-happen : (P : Problem) (s : State) (e : _) (v : Event) → length s.fixed ≡ P.flows → length (happen P s e v).fixed ≡ P.flows
unfolding happen shut free
length-happen P s e nothing h = h
length-happen P s e (fills l) h = length-list P.flows _
length-happen P s e (reaches c) h = length-list P.flows _

length-fill : (n : ℕ) (P : Problem) (s : State) → length s.fixed ≡ P.flows → length (fill n P s).fixed ≡ P.flows
unfolding fill round stop_met
length-fill zero P s h = h
length-fill (suc n) P s h = go (length-fill n P) (eqb (next P s).parts 0) (some P.flows (meets P s (next P s)))
  where
    go : ((t : State) → length t.fixed ≡ P.flows → length (fill n P t).fixed ≡ P.flows) → (b d : Bool)
        → length (elim b as (λ x. State) [
          | true ↦ s
          | false ↦ fill n P (elim d as (λ x. State) [ true ↦ stop_met P s (next P s) | false ↦ happen P s (next P s) (next P s).event ])
        ]).fixed
        ≡ P.flows
    go rest true d = h
    go rest false true = rest (stop_met P s (next P s)) (length-list P.flows _)
    go rest false false = rest (happen P s (next P s) (next P s).event) (length-happen P s (next P s) (next P s).event h)

pub length-filled : (P : Problem) → length (filled P).fixed ≡ P.flows
unfolding filled start
length-filled P = length-fill (work P (start P)) P (start P) (length-list P.flows P.minimum)
