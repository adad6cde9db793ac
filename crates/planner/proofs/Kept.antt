-- What is left of each limit and what rises through it are kept right by every change of the engine's tables.
use Prim.Native.Nat.{ℕ, ◌+◌, ◌*◌, ◌≤◌, ◌<◌}
use mathlib.Core.Path.{◌≡◌, refl, sym, ap, ◌∙◌}
use mathlib.Core.Bool.{Bool, true, false, cond, not}
use mathlib.Core.List.{List, []}
use mathlib.Core.Logic.{◌⊎◌, inl, inr}
use native.Mathlib.Omega.{arith}
use lib.Dec.{eqb}
use borrow.Author.Tests.{eq-eqb, ne_eqb}
use Rattle.laws.specs.Lists.{cells}
use Rattle.laws.proofs.Lists.{cells-list}
use Rattle.laws.proofs.Search.{eq_or_not, true_or_false}
use Rattle.fairness.specs.Total.{on}
use Rattle.fairness.specs.Problem.{Problem, across}
use Rattle.fairness.specs.Filling.{State, Next, start, meets, stop_met, shut, free}
use Rattle.fairness.proofs.Steps.{fixed_met, rising_met}
use Rattle.fairness.proofs.Sums.{total_equal, total_same, total_own, one, one_self, one_other}
use Rattle.planner.specs.Limits.{through, problem}
use Rattle.planner.specs.Tables.{Taken, Added}
use Rattle.planner.specs.Engine.{rising_at, state_of, Kept}
use Rattle.planner.proofs.Stages.{start_stages}
use Rattle.planner.proofs.State.{fixed_cell, rising_cell, waiting_cell, standing_rising, standing_low}
use Rattle.planner.proofs.State.{rising_of_meets, state_start}

module _ (cards : Bool) (capacities demands minima weights : List ℕ) where
  abbrev P : Problem
  P = problem cards capacities demands minima weights

  module _ (b : ℕ) (stages levels : List ℕ) where
    abbrev s : State
    s = state_of P b stages levels

    -- Flows that meet their demands: what they have came from what was left.
    module _ (e : Next) where
      abbrev met_parts : ℕ → ℕ
      met_parts c = on (meets P s e c) (P.weight c)

      abbrev met_share : ℕ → ℕ
      met_share c = on (meets P s e c) (P.demand c * b)

      module _ (c : ℕ) (hc : c < 64) where
        share_met : (meets P s e c ≡ true) ⊎ (meets P s e c ≡ false)
            → cells (stop_met P s e).fixed c * 1 ≡ met_share c * 1 + cells s.fixed c * 1
        unfolding state_of
        share_met (inl t) =
            let up = rising_of_meets cards capacities demands minima weights b stages levels e c hc t in
            rw (fixed_met P s e c hc, t)
            (omega (arith, fixed_cell P b stages levels c hc, standing_rising P b stages levels c up))
        share_met (inr f) = rw (fixed_met P s e c hc, f) (omega arith)

        weight_met : (meets P s e c ≡ true) ⊎ (meets P s e c ≡ false)
            → cells s.rising c * 1 ≡ cells (stop_met P s e).rising c * 1 + met_parts c * 1
        weight_met (inl t) =
            let up = rising_of_meets cards capacities demands minima weights b stages levels e c hc t in
            let whole : cells s.rising c ≡ P.weight c = rising_cell P b stages levels c hc ∙ rw up in
            rw (rising_met P s e c hc, t) (omega (arith, whole))
        weight_met (inr f) = rw (rising_met P s e c hc, f) (omega arith)

      sum_met : (i : ℕ) → across P i (cells (stop_met P s e).fixed) ≡ across P i met_share + across P i (cells s.fixed)
      sum_met i =
          let sums =
          total_equal 64 (through i) (cells (stop_met P s e).fixed) met_share (cells s.fixed) 1 1 1
          (λ c hc m. share_met c hc (true_or_false (meets P s e c))) in
          omega arith

      parts_met : (i : ℕ) → across P i (cells s.rising) ≡ across P i (cells (stop_met P s e).rising) + across P i met_parts
      parts_met i =
          let sums =
          total_equal 64 (through i) (cells s.rising) (cells (stop_met P s e).rising) met_parts 1 1 1
          (λ c hc m. weight_met c hc (true_or_false (meets P s e c))) in
          omega arith

      pub kept_met : {left parts left' parts' : List ℕ} → Kept P s left parts
          → Taken cards 64 (λ c. on (meets P s e c) (P.demand c * b)) left left'
          → Taken cards 64 (λ c. on (meets P s e c) (P.weight c)) parts parts' → Kept P (stop_met P s e) left' parts'
      unfolding stop_met
      kept_met old taken fewer =
          record {
            left_is = λ i hi. omega (arith, old.left_is i hi, taken.each i hi, sum_met i);
            parts_is = λ i hi. omega (arith, old.parts_is i hi, fewer.each i hi, parts_met i);
          }

      pub met_fits : {left parts : List ℕ} → Kept P s left parts
          → ((i : ℕ) → i < P.limits → across P i (cells (stop_met P s e).fixed) ≤ P.capacity i * b)
          → (i : ℕ) → i < P.limits → across P i (λ c. on (meets P s e c) (P.demand c * b)) ≤ cells left i
      unfolding state_of
      met_fits old room i hi = omega (arith, old.left_is i hi, room i hi, sum_met i)

    -- Limit l fills: what rises through it stops at the level, and the base grows.
    module _ (e : Next) (l : ℕ) where
      abbrev shut_parts : ℕ → ℕ
      shut_parts c = on (through l c) (rising_at P stages c)

      abbrev shut_share : ℕ → ℕ
      shut_share c = on (through l c) (rising_at P stages c * e.high)

      module _ (c : ℕ) (hc : c < 64) where
        fixed_shut : cells (shut P s e l).fixed c * 1 ≡ cells s.fixed c * e.parts + shut_share c * 1
        unfolding shut
        fixed_shut =
            rw (
              cells-list 64 (λ c. cells s.fixed c * e.parts + on (through l c) (cells s.rising c * e.high)) c hc,
              rising_cell P b stages levels c hc,
            )
            (omega arith)

        rising_shut : (through l c ≡ true) ⊎ (through l c ≡ false)
            → cells s.rising c * 1 ≡ cells (shut P s e l).rising c * 1 + shut_parts c * 1
        unfolding shut
        rising_shut (inl t) =
            rw (cells-list 64 (λ c. on (not (through l c)) (cells s.rising c)) c hc, rising_cell P b stages levels c hc, t)
            (omega arith)
        rising_shut (inr f) =
            rw (cells-list 64 (λ c. on (not (through l c)) (cells s.rising c)) c hc, rising_cell P b stages levels c hc, f)
            (omega arith)

      sum_shut : (i : ℕ)
          → across P i (cells (shut P s e l).fixed) ≡ across P i (cells s.fixed) * e.parts + across P i shut_share
      sum_shut i =
          let sums =
          total_equal 64 (through i) (cells (shut P s e l).fixed) (cells s.fixed) shut_share 1 e.parts 1
          (λ c hc m. fixed_shut c hc) in
          omega arith

      parts_shut : (i : ℕ) → across P i (cells s.rising) ≡ across P i (cells (shut P s e l).rising) + across P i shut_parts
      parts_shut i =
          let sums =
          total_equal 64 (through i) (cells s.rising) (cells (shut P s e l).rising) shut_parts 1 1 1
          (λ c hc m. rising_shut c hc (true_or_false (through l c))) in
          omega arith

      module _ {left parts : List ℕ} (left₁ : List ℕ) (old : Kept P s left parts)
          (scaled : (i : ℕ) → i < P.limits → cells left₁ i ≡ cells left i * e.parts) where
        pub kept_shut : {left' parts' : List ℕ} → Taken cards 64 (λ c. on (through l c) (rising_at P stages c * e.high)) left₁ left'
            → Taken cards 64 (λ c. on (through l c) (rising_at P stages c)) parts parts' → Kept P (shut P s e l) left' parts'
        unfolding shut
        kept_shut taken fewer =
            record {
              left_is = λ i hi.
                  omega (
                    arith,
                    ap (λ x. x * e.parts) (old.left_is i hi),
                    scaled i hi,
                    taken.each i hi,
                    sum_shut i,
                  );
              parts_is = λ i hi. omega (arith, old.parts_is i hi, fewer.each i hi, parts_shut i);
            }

        pub shut_fits : ((i : ℕ) → i < P.limits → across P i (cells (shut P s e l).fixed) ≤ P.capacity i * (b * e.parts))
            → (i : ℕ) → i < P.limits → across P i (λ c. on (through l c) (rising_at P stages c * e.high)) ≤ cells left₁ i
        unfolding state_of
        shut_fits room i hi =
            omega (arith, ap (λ x. x * e.parts) (old.left_is i hi), scaled i hi, room i hi, sum_shut i)

    -- Flow f's minimum is reached: it gives up what it has, and rises.
    module _ (f : ℕ) (hf : f < 64) (waiting : cells stages f ≡ 22) where
      fixed_freed : cells s.fixed f ≡ P.minimum f * b
      fixed_freed = fixed_cell P b stages levels f hf ∙ standing_low P b stages levels f (rw waiting (omega arith))

      module _ (c : ℕ) (hc : c < 64) where
        fixed_free : (c ≡ f) ⊎ (c ≡ f → ⊥)
            → cells s.fixed c * 1 ≡ cells (free P s f).fixed c * 1 + one f c * (P.minimum f * b)
        unfolding free
        fixed_free (inl q) =
            rw (cells-list 64 (λ c. cond (eqb c f) 0 (cells s.fixed c)) c hc, q, eq-eqb f f refl, one_self f, fixed_freed)
            (omega arith)
        fixed_free (inr n) =
            rw (cells-list 64 (λ c. cond (eqb c f) 0 (cells s.fixed c)) c hc, ne_eqb c f n, one_other f c n) (omega arith)

        rising_free : (c ≡ f) ⊎ (c ≡ f → ⊥)
            → cells (free P s f).rising c * 1 ≡ cells s.rising c * 1 + one f c * P.weight f
        unfolding free
        rising_free (inl q) =
            rw (
              cells-list 64 (λ c. cond (eqb c f) (cells s.waiting c) (cells s.rising c)) c hc,
              q,
              eq-eqb f f refl,
              one_self f,
              rising_cell P b stages levels f hf,
              waiting_cell P b stages levels f hf,
              waiting,
            )
            (omega arith)
        rising_free (inr n) =
            rw (
              cells-list 64 (λ c. cond (eqb c f) (cells s.waiting c) (cells s.rising c)) c hc,
              ne_eqb c f n,
              one_other f c n,
            )
            (omega arith)

      sum_free : (i : ℕ)
          → across P i (cells s.fixed) ≡ across P i (cells (free P s f).fixed) + on (through i f) (P.minimum f * b)
      sum_free i =
          let sums =
          total_equal 64 (through i) (cells s.fixed) (cells (free P s f).fixed) (one f) 1 1 (P.minimum f * b)
          (λ c hc m. fixed_free c hc (eq_or_not c f)) in
          omega (arith, total_own 64 (through i) f (P.minimum f * b) hf)

      parts_free : (i : ℕ) → across P i (cells (free P s f).rising) ≡ across P i (cells s.rising) + on (through i f) (P.weight f)
      parts_free i =
          let sums =
          total_equal 64 (through i) (cells (free P s f).rising) (cells s.rising) (one f) 1 1 (P.weight f)
          (λ c hc m. rising_free c hc (eq_or_not c f)) in
          omega (arith, total_own 64 (through i) f (P.weight f) hf)

      pub kept_free : {left parts left' parts' : List ℕ} → Kept P s left parts
          → ((i : ℕ) → i < P.limits → cells left' i ≡ cells left i + on (through i f) (P.minimum f * b))
          → ((i : ℕ) → i < P.limits → cells parts' i ≡ cells parts i + on (through i f) (P.weight f))
          → Kept P (free P s f) left' parts'
      unfolding free
      kept_free old given more =
          record {
            left_is = λ i hi. omega (arith, old.left_is i hi, given i hi, sum_free i);
            parts_is = λ i hi. omega (arith, old.parts_is i hi, more i hi, parts_free i);
          }

  -- At the start.
  sum_start : (i : ℕ) → across P i (cells (start P).fixed) ≡ across P i P.minimum
  unfolding start
  sum_start i = total_same 64 (through i) (cells (start P).fixed) P.minimum (λ c hc. cells-list 64 P.minimum c hc)

  parts_start : (i : ℕ) → across P i (cells (start P).rising) ≡ across P i (rising_at P (start_stages demands minima))
  parts_start i = total_same 64 (through i) (cells (start P).rising) (rising_at P (start_stages demands minima)) each
    where
      each : (c : ℕ) → c < 64 → cells (start P).rising c ≡ rising_at P (start_stages demands minima) c
      each c hc =
          ap (λ t. cells t.rising c) (sym (state_start cards capacities demands minima weights [] refl))
          ∙ rising_cell P 1 (start_stages demands minima) [] c hc

  pub kept_start : {left parts : List ℕ} → Taken cards 64 P.minimum capacities left
      → Added cards 64 (rising_at P (start_stages demands minima)) parts → Kept P (start P) left parts
  unfolding start
  kept_start taken added =
      record {
        left_is = λ i hi. omega (arith, taken.each i hi, sum_start i);
        parts_is = λ i hi. added.each i hi ∙ sym (parts_start i);
      }
