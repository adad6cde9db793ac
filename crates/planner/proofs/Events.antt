-- A limit that fills, and a minimum that is reached: what becomes of the tables is what becomes of the state.
use Prim.Native.Nat.{ℕ, ◌+◌, ◌*◌, ◌<◌}
use mathlib.Core.Path.{◌≡◌, refl, ap, ◌∙◌}
use mathlib.Core.Bool.{Bool, true, false, cond, not}
use mathlib.Core.List.{List}
use mathlib.Core.Logic.{◌⊎◌, inl, inr, ◌≢◌}
use native.Mathlib.Nat.{zero-mul}
use native.Mathlib.Omega.{arith}
use lib.Dec.{eqb}
use lib.ListN.{length, set}
use lib.Seq.{get_or-set_other}
use borrow.Author.Tests.{eq-eqb, ne_eqb}
use Rattle.laws.specs.Lists.{cells}
use Rattle.laws.proofs.Lists.{cells-list, list_same}
use Rattle.laws.proofs.Search.{eq_or_not, true_or_false}
use Rattle.fairness.specs.Total.{on}
use Rattle.fairness.specs.Problem.{Problem, across}
use Rattle.fairness.specs.Filling.{Next, shut, free}
use Rattle.planner.specs.Limits.{through, problem}
use Rattle.planner.specs.Engine.{standing, rising_at, waiting_at, state_of, halted_stage, Done}
use Rattle.planner.proofs.Stages.{Kind, halted, rises, met, waits, held, kind, shut_stages}
use Rattle.planner.proofs.Stages.{limit_small, resting_halted, halted_resting, stage_freed, limit_fresh}
use Rattle.planner.proofs.State.{fixed_cell, rising_cell, waiting_cell}
use Rattle.planner.proofs.State.{standing_halted, standing_rising, standing_met, standing_low, standing_same}

module _ (cards : Bool) (capacities demands minima weights : List ℕ) where
  abbrev P : Problem
  P = problem cards capacities demands minima weights

  -- Limit l fills.
  module _ (b : ℕ) (stages levels levels' : List ℕ) (e : Next) (l : ℕ) (done : Done P stages) (hl : l < P.limits)
      (pos : 0 < across P l (rising_at P stages))
      (scaled : (i : ℕ) → i < P.limits → i ≢ l → cells levels' i ≡ cells levels i * e.parts)
      (high : cells levels' l ≡ e.high) where
    abbrev after : List ℕ
    after = shut_stages (through l) l stages

    small : l < 20
    small = limit_small cards l hl

    module _ (c : ℕ) (hc : c < 64) where
      stage_shut : cells after c ≡ cond (through l c) (halted_stage l (cells stages c)) (cells stages c)
      stage_shut = cells-list 64 (λ c. cond (through l c) (halted_stage l (cells stages c)) (cells stages c)) c hc

      stage_kept : cells stages c ≢ 20 → cells stages c ≢ 22 → (through l c ≡ true) ⊎ (through l c ≡ false)
          → cells after c ≡ cells stages c
      stage_kept n m (inl t) = stage_shut ∙ rw t (halted_resting l (cells stages c) n m)
      stage_kept n m (inr f) = stage_shut ∙ rw f

      still : cells stages c ≢ 20 → (u : Bool) → on u (rising_at P stages c * e.high) ≡ 0
      still n true = rw (ne_eqb (cells stages c) 20 n) (zero-mul e.high)
      still n false = refl

      -- a flow that does not rise has what it had, over the larger base
      abbrev Enlarged : Type 0
      Enlarged = standing P (b * e.parts) after levels' c ≡ standing P b stages levels c * e.parts

      enlarged : (through l c ≡ true) ⊎ (through l c ≡ false) → Kind (cells stages c) → cells stages c ≢ 20 → Enlarged
      enlarged t (halted k) n =
          let same = stage_kept n (λ q. omega arith) t in
          let fresh : cells stages c ≢ l = λ q. limit_fresh P stages done l pos c hc q small in
          let new =
          standing_halted P (b * e.parts) after levels' c (rw same k) ∙ ap (λ g. P.weight c * cells levels' g) same
          ∙ ap (λ x. P.weight c * x) (scaled (cells stages c) (done.listed c hc k) fresh) in
          omega (arith, new, ap (λ x. x * e.parts) (standing_halted P b stages levels c k))
      enlarged t (rises q) n = absurd (n q)
      enlarged t (met q) n =
          let new = standing_met P (b * e.parts) after levels' c (stage_kept n (λ r. omega arith) t ∙ q) in
          omega (arith, new, ap (λ x. x * e.parts) (standing_met P b stages levels c q))
      enlarged t (waits q) n =
          let new = standing_low P (b * e.parts) after levels' c (low t) in
          omega (arith, new, ap (λ x. x * e.parts) (standing_low P b stages levels c (rw q (omega arith))))
        where
          low : (through l c ≡ true) ⊎ (through l c ≡ false) → 21 < cells after c
          low (inl t) = rw (stage_shut, t, q) (omega arith)
          low (inr f) = rw (stage_shut, f, q) (omega arith)
      enlarged t (held k) n =
          let new =
          standing_low P (b * e.parts) after levels' c (rw (stage_kept n (λ q. omega arith) t) (omega arith)) in
          omega (arith, new, ap (λ x. x * e.parts) (standing_low P b stages levels c (omega arith)))

      shut_fixed : (through l c ≡ true) ⊎ (through l c ≡ false) → (cells stages c ≡ 20) ⊎ (cells stages c ≡ 20 → ⊥)
          → standing P (b * e.parts) after levels' c
          ≡ standing P b stages levels c * e.parts + on (through l c) (rising_at P stages c * e.high)
      shut_fixed t (inr n) = omega (arith, enlarged t (kind (cells stages c)) n, still n (through l c))
      shut_fixed (inl t) (inl q) =
          let at : cells after c ≡ l = stage_shut ∙ rw (t, q) in
          let new =
          standing_halted P (b * e.parts) after levels' c (rw at small) ∙ ap (λ g. P.weight c * cells levels' g) at
          ∙ ap (λ x. P.weight c * x) high in
          rw (t, q) (omega (arith, new, ap (λ x. x * e.parts) (standing_rising P b stages levels c q)))
      shut_fixed (inr f) (inl q) =
          let new = standing_rising P (b * e.parts) after levels' c (stage_shut ∙ rw (f, q)) in
          rw f (omega (arith, new, ap (λ x. x * e.parts) (standing_rising P b stages levels c q)))

      shut_rising : (through l c ≡ true) ⊎ (through l c ≡ false)
          → rising_at P after c ≡ on (not (through l c)) (rising_at P stages c)
      shut_rising (inl t) =
          rw (stage_shut, t, ne_eqb (halted_stage l (cells stages c)) 20 (resting_halted l (cells stages c) small).0)
      shut_rising (inr f) = rw (stage_shut, f)

      shut_waiting : (through l c ≡ true) ⊎ (through l c ≡ false)
          → waiting_at P after c ≡ on (not (through l c)) (waiting_at P stages c)
      shut_waiting (inl t) =
          rw (stage_shut, t, ne_eqb (halted_stage l (cells stages c)) 22 (resting_halted l (cells stages c) small).1)
      shut_waiting (inr f) = rw (stage_shut, f)

    shut_state : state_of P (b * e.parts) after levels' ≡ shut P (state_of P b stages levels) e l
    unfolding state_of shut
    shut_state =
        λ i. record {
          base = b * e.parts;
          fixed = list_same 64 _ _ fixed i;
          rising = list_same 64 _ _ rising i;
          waiting = list_same 64 _ _ waiting i;
        }
      where
        fixed : (c : ℕ) → c < 64 → standing P (b * e.parts) after levels' c
            ≡ cells (state_of P b stages levels).fixed c * e.parts
            + on (through l c) (cells (state_of P b stages levels).rising c * e.high)
        fixed c hc =
            rw (fixed_cell P b stages levels c hc, rising_cell P b stages levels c hc)
            (shut_fixed c hc (true_or_false (through l c)) (eq_or_not (cells stages c) 20))

        rising : (c : ℕ) → c < 64 → rising_at P after c ≡ on (not (through l c)) (cells (state_of P b stages levels).rising c)
        rising c hc = rw (rising_cell P b stages levels c hc) (shut_rising c hc (true_or_false (through l c)))

        waiting : (c : ℕ) → c < 64 → waiting_at P after c ≡ on (not (through l c)) (cells (state_of P b stages levels).waiting c)
        waiting c hc = rw (waiting_cell P b stages levels c hc) (shut_waiting c hc (true_or_false (through l c)))

    pub state_shut : {new : List ℕ} → new ≡ shut_stages (through l) l stages
        → state_of P (b * e.parts) new levels' ≡ shut P (state_of P b stages levels) e l
    state_shut q = ap (λ x. state_of P (b * e.parts) x levels') q ∙ shut_state

  -- Flow f's minimum is reached.
  module _ (b : ℕ) (stages levels : List ℕ) (f : ℕ) (hf : f < 64) (waits : cells stages f ≡ 22) (long : length stages ≡ 64) where
    module _ (c : ℕ) (hc : c < 64) where
      free_fixed : (c ≡ f) ⊎ (c ≡ f → ⊥)
          → standing P b (set stages f 20) levels c ≡ cond (eqb c f) 0 (cells (state_of P b stages levels).fixed c)
      free_fixed (inl q) =
          rw (q, eq-eqb f f refl) (standing_rising P b (set stages f 20) levels f (stage_freed stages f hf long))
      free_fixed (inr n) =
          rw (ne_eqb c f n, fixed_cell P b stages levels c hc)
          (standing_same P b (set stages f 20) stages levels c (get_or-set_other stages f c 20 0 n))

      free_rising : (c ≡ f) ⊎ (c ≡ f → ⊥) → rising_at P (set stages f 20) c
          ≡ cond (eqb c f) (cells (state_of P b stages levels).waiting c) (cells (state_of P b stages levels).rising c)
      free_rising (inl q) =
          rw (q, eq-eqb f f refl, waiting_cell P b stages levels f hf, stage_freed stages f hf long, waits)
      free_rising (inr n) =
          rw (ne_eqb c f n, rising_cell P b stages levels c hc, get_or-set_other stages f c 20 0 n)

      free_waiting : (c ≡ f) ⊎ (c ≡ f → ⊥)
          → waiting_at P (set stages f 20) c ≡ cond (eqb c f) 0 (cells (state_of P b stages levels).waiting c)
      free_waiting (inl q) = rw (q, eq-eqb f f refl, stage_freed stages f hf long)
      free_waiting (inr n) = rw (ne_eqb c f n, waiting_cell P b stages levels c hc, get_or-set_other stages f c 20 0 n)

    pub state_free : state_of P b (set stages f 20) levels ≡ free P (state_of P b stages levels) f
    unfolding state_of free
    state_free =
        λ i. record {
          base = b;
          fixed = list_same 64 _ _ (λ c hc. free_fixed c hc (eq_or_not c f)) i;
          rising = list_same 64 _ _ (λ c hc. free_rising c hc (eq_or_not c f)) i;
          waiting = list_same 64 _ _ (λ c hc. free_waiting c hc (eq_or_not c f)) i;
        }
