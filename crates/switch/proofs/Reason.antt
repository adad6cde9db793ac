-- What a reason says: 0 that the flow has its demand, 1 that its input is a bottleneck, 2 that only its output is.
use Prim.Native.Nat.{ℕ, zero, suc, ◌*◌, ◌<◌}
use mathlib.Core.Path.{◌≡◌, refl}
use mathlib.Core.Bool.{Bool, true, false, ◌&&◌}
use mathlib.Core.Logic.{◌⊎◌, inl, inr}
use native.Mathlib.Nat.{not-suc-le-zero, ne_of_lt}
use native.Mathlib.Omega.{arith}
use lib.Dec.{eqb, leb, ltb}
use borrow.Author.Tests.{eq-eqb, ne_eqb, eqb-true, lt-ltb, ltb-true, le-leb, leb-true}
use Rattle.laws.proofs.Search.{true_or_false, true_not_false, both_true, true_of_both, below_suc}
use Rattle.switch.specs.Cells.{input, output, cell_of, input_capacity, output_capacity, demand_of}
use Rattle.switch.specs.Within.{Within}
use Rattle.switch.specs.Rates.{Rates, flow, input_total, output_total}
use Rattle.switch.specs.Fairness.{Used, Fair, InputBottleneck, OutputBottleneck}
use Rattle.switch.specs.Reason.{every, at_demand, input_holds, output_holds, flow_reason}
use Rattle.switch.specs.declared.port.Input.{Input}
use Rattle.switch.specs.declared.port.Output.{Output}
use Rattle.switch.specs.declared.request.Request.{Request}
use Rattle.switch.proofs.Fair.{settled_when_fair}

all_of_every : (n : ℕ) (test : ℕ → Bool) → every n test ≡ true → (i : ℕ) → i < n → test i ≡ true
unfolding every
all_of_every zero test e i h = absurd (not-suc-le-zero h)
all_of_every (suc n) test e i h =
    let both = both_true (test n) (every n test) e in
    below_suc (λ j. test j ≡ true) n (all_of_every n test both.1) both.0 i h

every_of_all : (n : ℕ) (test : ℕ → Bool) → ((i : ℕ) → i < n → test i ≡ true) → every n test ≡ true
unfolding every
every_of_all zero test h = refl
every_of_all (suc n) test h = true_of_both (h n (omega arith)) (every_of_all n test (λ i l. h i (omega arith)))

module _ (r : Request) (a : Rates) (u : Input) (v : Output) where
  pub bottleneck_of_holds : input_holds r a u v ≡ true → InputBottleneck r a u v
  bottleneck_of_holds e =
      let first = both_true (ltb (flow a u v) (demand_of r (cell_of u v) * a.base)
      && eqb (input_total r a u) (input_capacity r u * a.base)) _ e in
      let second = both_true (ltb (flow a u v) (demand_of r (cell_of u v) * a.base)) _ first.0 in
      record {
        below = ltb-true _ _ second.0;
        full = eqb-true _ _ second.1;
        greatest = λ v' h.
            leb-true _ _ (all_of_every r.n (λ k. leb (flow a u (output k)) (flow a u v)) first.1 v'.0 h);
      }

  pub holds_of_bottleneck : InputBottleneck r a u v → input_holds r a u v ≡ true
  holds_of_bottleneck neck =
      true_of_both (true_of_both (lt-ltb _ _ neck.below) (eq-eqb _ _ neck.full))
      (every_of_all r.n _ (λ k h. le-leb _ _ (neck.greatest (output k) h)))

  -- the output's test is the definition too
  pub output_bottleneck_of_holds : output_holds r a u v ≡ true → OutputBottleneck r a u v
  output_bottleneck_of_holds e =
      let first = both_true (ltb (flow a u v) (demand_of r (cell_of u v) * a.base)
      && eqb (output_total r a v) (output_capacity r v * a.base)) _ e in
      let second = both_true (ltb (flow a u v) (demand_of r (cell_of u v) * a.base)) _ first.0 in
      record {
        below = ltb-true _ _ second.0;
        full = eqb-true _ _ second.1;
        greatest = λ u' h.
            leb-true _ _ (all_of_every r.m (λ k. leb (flow a (input k) v) (flow a u v)) first.1 u'.0 h);
      }

  pub holds_of_output_bottleneck : OutputBottleneck r a u v → output_holds r a u v ≡ true
  holds_of_output_bottleneck neck =
      true_of_both (true_of_both (lt-ltb _ _ neck.below) (eq-eqb _ _ neck.full))
      (every_of_all r.m _ (λ k h. le-leb _ _ (neck.greatest (input k) h)))

  -- which reason a flow has:
  pub reason_at_demand : flow a u v ≡ demand_of r (cell_of u v) * a.base → flow_reason r a u v ≡ 0
  reason_at_demand e = rw (eq-eqb (flow a u v) (demand_of r (cell_of u v) * a.base) e)

  not_at_demand : flow a u v < demand_of r (cell_of u v) * a.base → at_demand r a u v ≡ false
  not_at_demand h = ne_eqb _ _ (ne_of_lt h)

  pub reason_at_input : InputBottleneck r a u v → flow_reason r a u v ≡ 1
  reason_at_input neck = rw (not_at_demand neck.below, holds_of_bottleneck neck)

  pub reason_otherwise : flow a u v < demand_of r (cell_of u v) * a.base → (InputBottleneck r a u v → ⊥) → flow_reason r a u v ≡ 2
  reason_otherwise below free = go (true_or_false (input_holds r a u v))
    where
      go : (input_holds r a u v ≡ true) ⊎ (input_holds r a u v ≡ false) → flow_reason r a u v ≡ 2
      go (inl e) = absurd (free (bottleneck_of_holds e))
      go (inr e) = rw (not_at_demand below, e)

-- What the reason of a flow says, where the rates are fair: it has its demand; or its input is a bottleneck; or its
-- input is none and its output is one.
pub reason_says : (r : Request) → Within r → (a : Rates) → Fair r a → (u : Input) (v : Output) → Used r u v
    → ((flow_reason r a u v ≡ 0) × (flow a u v ≡ demand_of r (cell_of u v) * a.base))
    ⊎ (((flow_reason r a u v ≡ 1) × InputBottleneck r a u v)
    ⊎ ((flow_reason r a u v ≡ 2) × OutputBottleneck r a u v × (InputBottleneck r a u v → ⊥)))
reason_says r w a fair u v is = go ((settled_when_fair r w a fair).each u v is) (true_or_false (input_holds r a u v))
  where
    go : (flow a u v ≡ demand_of r (cell_of u v) * a.base) ⊎ (InputBottleneck r a u v ⊎ OutputBottleneck r a u v)
        → (input_holds r a u v ≡ true) ⊎ (input_holds r a u v ≡ false)
        → ((flow_reason r a u v ≡ 0) × (flow a u v ≡ demand_of r (cell_of u v) * a.base))
        ⊎ (((flow_reason r a u v ≡ 1) × InputBottleneck r a u v)
        ⊎ ((flow_reason r a u v ≡ 2) × OutputBottleneck r a u v × (InputBottleneck r a u v → ⊥)))
    go (inl met) t = inl (reason_at_demand r a u v met, met)
    go (inr (inl neck)) t = inr (inl (reason_at_input r a u v neck, neck))
    go (inr (inr neck)) (inl e) =
        let both = bottleneck_of_holds r a u v e in inr (inl (reason_at_input r a u v both, both))
    go (inr (inr neck)) (inr e) =
        let free : InputBottleneck r a u v → ⊥ = λ other. true_not_false (holds_of_bottleneck r a u v other) e in
        inr (inr (reason_otherwise r a u v neck.below free, neck, free))
