-- Document 01's fairness, for every request within the limits: fair exactly when each flow has its demand or a
-- bottleneck; one fair allocation exists; only one.
use Prim.Native.Nat.{ℕ, ◌*◌, ◌≤◌, ◌<◌}
use mathlib.Core.Path.{◌≡◌, refl, ap}
use mathlib.Core.Logic.{inl, ◌≢◌, ◌↔◌}
use native.Mathlib.Omega.{arith}
use borrow.Author.Tests.{eq-eqb}
use Rattle.fairness.specs.Problem.{Sound}
use Rattle.fairness.specs.Fairness as General
use Rattle.laws.specs.Lists.{cells}
use Rattle.fairness.specs.Filling.{filled}
use Rattle.fairness.proofs.Sums.{total-le}
use Rattle.fairness.proofs.Settled.{settled_of_fair, fair_of_settled}
use Rattle.fairness.proofs.Unique.{same_of_fair}
use Rattle.fairness.proofs.Existence.{fair_filled}
use Rattle.switch.specs.Cells.{cell_of, input_of, input_limit}
use Rattle.switch.specs.Within.{Within}
use Rattle.switch.specs.Rates.{Rates}
use Rattle.switch.specs.Fairness.{Used, Allocation, GivesMore, Fair, Settled, SameRates, Blank}
use Rattle.switch.specs.Planned.{passes, problem_of}
use Rattle.switch.specs.declared.port.Input.{Input}
use Rattle.switch.specs.declared.port.Output.{Output}
use Rattle.switch.specs.declared.request.Request.{Request}
use Rattle.switch.proofs.Sharing.{general, Past, by_cell, below_eight, blank_of_allowed, allocation_of_allowed, allowed_of_allocation}
use Rattle.switch.proofs.Sharing.{settled_of_general, general_of_settled}
use Rattle.switch.proofs.Agree.{agree_sym, agree_allocation, agree_fair, agree_settled, blanked, agree_blanked, blank_blanked}

module _ (r : Request) (w : Within r) where
  -- Every cell passes its input, and minima of 0 fit every port.
  pub sound : Sound (problem_of r)
  sound =
      record {
        placed = λ c h. (input_limit (input_of c), (omega arith), rw (eq-eqb (input_limit (input_of c)) (input_limit (input_of c)) refl));
        weighed = λ c h. omega arith;
        least = λ c h. omega arith;
        fits = λ l h. omega (arith, total-le 64 (passes l) (λ c. 0) (λ c. 0) 1 0 (λ c hc e. omega arith));
      }

  -- Fair in document 01's words and with 0 in unused cells is fair for the problem,
  pub general_of_fair : (a : Rates) → Blank r a → Fair r a → General.Fair (problem_of r) (general a)
  general_of_fair a blank fair =
      record {
        allowed = allowed_of_allocation r w a blank fair.allocation;
        unbeaten =
            by_cell r (λ f. (z : General.Allocation) → General.Better (problem_of r) (general a) f z → ⊥) of_flow of_unused;
      }
    where
      of_flow : (u : Input) (v : Output) → Used r u v → (z : General.Allocation)
          → General.Better (problem_of r) (general a) (cell_of u v) z → ⊥
      of_flow u v is z better =
          let zr : Rates = record { base = z.base; numerator = z.numerator } in
          fair.unbeaten u v is zr (allocation_of_allowed r w zr better.allowed)
          (record {
            more = better.more;
            no_less = λ u' v' is' other h.
                let low = below_eight r w u' v' is' in
                better.no_less (cell_of u' v') (omega arith) other (omega arith);
          })

      of_unused : (u : Input) (v : Output) → u.0 < 8 → v.0 < 8 → Past r u v → (z : General.Allocation)
          → General.Better (problem_of r) (general a) (cell_of u v) z → ⊥
      of_unused u v hu hv past z better =
          let top = better.allowed.bounded.at_most (cell_of u v) (omega arith) in
          let nothing : z.numerator (cell_of u v) ≡ 0 =
          omega (arith, ap (λ k. k * z.base) (w.unused_cell u v hu hv past)) in
          omega (arith, better.more, ap (λ k. k * a.base) nothing)

  -- and the other way round.
  pub fair_of_general : (a : Rates) → General.Fair (problem_of r) (general a) → Fair r a
  fair_of_general a fair =
      record {
        allocation = allocation_of_allowed r w a fair.allowed;
        unbeaten = λ u v is z ok more. fair.unbeaten (cell_of u v) (cell u v is) (general (blanked r z)) (better u v is z ok more);
      }
    where
      cell : (u : Input) (v : Output) → Used r u v → cell_of u v < 64
      cell u v is = let low = below_eight r w u v is in omega arith

      better : (u : Input) (v : Output) → Used r u v → (z : Rates) → Allocation r z → GivesMore r a u v z
          → General.Better (problem_of r) (general a) (cell_of u v) (general (blanked r z))
      better u v is z ok more =
          let agree = agree_blanked r w z in
          record {
            allowed =
                allowed_of_allocation r w (blanked r z) (blank_blanked r w z) (agree_allocation r z (blanked r z) agree ok);
            more = rw (agree.flows u v is) at more.more;
            no_less =
                by_cell r
                (λ g. g ≢ cell_of u v → General.AtMost (problem_of r) (general a) g (cell_of u v)
                → a.numerator g * z.base ≤ (blanked r z).numerator g * a.base)
                (λ u' v' is' other h. rw (agree.flows u' v' is') at (more.no_less u' v' is' other (omega arith)))
                (λ u' v' hu hv past other h.
                omega (arith, ap (λ k. k * z.base) ((blank_of_allowed r w a fair.allowed).unused u' v' hu hv past)));
          }

  fair_when_settled : (a : Rates) → Allocation r a → Settled r a → Fair r a
  fair_when_settled a ok settled =
      let agree = agree_blanked r w a in
      let blank = blank_blanked r w a in
      agree_fair r (blanked r a) a (agree_sym r a (blanked r a) agree)
      (fair_of_general (blanked r a)
      (fair_of_settled (problem_of r) (general (blanked r a))
      (allowed_of_allocation r w (blanked r a) blank (agree_allocation r a (blanked r a) agree ok))
      (record { each = each (agree_settled r a (blanked r a) agree settled) })))
    where
      each : Settled r (blanked r a) → (c : ℕ) → c < 64 → General.SettledAt (problem_of r) (general (blanked r a)) c
      each settled' =
          by_cell r (General.SettledAt (problem_of r) (general (blanked r a)))
          (λ u v is. general_of_settled r w (blanked r a) (blank_blanked r w a) u v is (settled'.each u v is))
          (λ u v hu hv past. inl (omega (
            arith,
            (blank_blanked r w a).unused u v hu hv past,
            ap (λ k. k * a.base) (w.unused_cell u v hu hv past),
          )))

  -- The other half needs no more than that the rates are fair.
  pub settled_when_fair : (a : Rates) → Fair r a → Settled r a
  settled_when_fair a fair =
      let agree = agree_blanked r w a in
      let blank = blank_blanked r w a in
      let all = settled_of_fair (problem_of r) (general (blanked r a))
      (general_of_fair (blanked r a) blank (agree_fair r a (blanked r a) agree fair)) in
      agree_settled r (blanked r a) a (agree_sym r a (blanked r a) agree)
      (record {
        each = λ u v is.
            let low = below_eight r w u v is in
            settled_of_general r w (blanked r a) blank u v is (all.each (cell_of u v) (omega arith));
      })

  -- Fair exactly when settled: document 01's point 5, first half.
  pub fair_exactly_when_settled : (a : Rates) → Allocation r a → (Fair r a ↔ Settled r a)
  fair_exactly_when_settled a ok = (settled_when_fair a, fair_when_settled a ok)

  -- Point 5, second half: one fair allocation exists,
  pub one_is_fair : (a : Rates) × Fair r a
  one_is_fair =
      let a : Rates = record { base = (filled (problem_of r)).base; numerator = cells (filled (problem_of r)).fixed } in
      (a, fair_of_general a (fair_filled (problem_of r) sound))

  -- and only one.
  pub only_one_is_fair : (a z : Rates) → Fair r a → Fair r z → SameRates r a z
  only_one_is_fair a z fair_a fair_z =
      let agree_a = agree_blanked r w a in
      let agree_z = agree_blanked r w z in
      let same = same_of_fair (problem_of r) (λ c h. omega arith) (general (blanked r a)) (general (blanked r z))
      (general_of_fair (blanked r a) (blank_blanked r w a) (agree_fair r a (blanked r a) agree_a fair_a))
      (general_of_fair (blanked r z) (blank_blanked r w z) (agree_fair r z (blanked r z) agree_z fair_z)) in
      record {
        same = λ u v is.
            let low = below_eight r w u v is in
            rw (agree_a.flows u v is, agree_z.flows u v is) (same.same (cell_of u v) (omega arith));
      }
