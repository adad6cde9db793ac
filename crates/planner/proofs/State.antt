-- The state that stages and levels stand for: what its cells hold, how it starts, and what it is when demands are met.
use Prim.Native.Nat.{ℕ, ◌*◌, ◌<◌}
use mathlib.Core.Path.{◌≡◌, refl, sym, ap, ◌∙◌}
use mathlib.Core.Bool.{Bool, true, false, cond, ◌&&◌, and-false}
use mathlib.Core.List.{List}
use mathlib.Core.Logic.{◌⊎◌, inl, inr}
use native.Mathlib.Nat.{mul_assoc, eq-zero-or-pos, ne_of_gt}
use native.Mathlib.Omega.{arith}
use lib.Dec.{eqb, leb, ltb}
use lib.ListN.{length}
use borrow.Author.Tests.{lt-ltb, le-ltb, ne_eqb, eqb-true}
use Rattle.laws.specs.Lists.{cells}
use Rattle.laws.proofs.Lists.{cells-list, list_is, list_same}
use Rattle.laws.proofs.Search.{true_or_false, true_not_false}
use Rattle.fairness.specs.Total.{on}
use Rattle.fairness.specs.Problem.{Problem}
use Rattle.fairness.specs.Filling.{State, Next, start, meets, some, stop_met}
use Rattle.fairness.proofs.Some.{none_of_some}
use Rattle.planner.specs.Limits.{problem}
use Rattle.planner.specs.Engine.{standing, rising_at, waiting_at, state_of, start_stage, met_at}
use Rattle.planner.proofs.Stages.{met_stages, start_stages}

-- What the cells of a state hold.
module _ (P : Problem) (b : ℕ) (stages levels : List ℕ) where
  module _ (c : ℕ) (hc : c < 64) where
    pub fixed_cell : cells (state_of P b stages levels).fixed c ≡ standing P b stages levels c
    unfolding state_of
    fixed_cell = cells-list 64 (standing P b stages levels) c hc

    pub rising_cell : cells (state_of P b stages levels).rising c ≡ rising_at P stages c
    unfolding state_of
    rising_cell = cells-list 64 (rising_at P stages) c hc

    pub waiting_cell : cells (state_of P b stages levels).waiting c ≡ waiting_at P stages c
    unfolding state_of
    waiting_cell = cells-list 64 (waiting_at P stages) c hc

  -- What a flow has, by its stage.
  module _ (c : ℕ) where
    pub standing_halted : cells stages c < 20 → standing P b stages levels c ≡ P.weight c * cells levels (cells stages c)
    unfolding standing
    standing_halted h = rw (lt-ltb (cells stages c) 20 h)

    pub standing_rising : cells stages c ≡ 20 → standing P b stages levels c ≡ 0
    unfolding standing
    standing_rising e = rw e

    pub standing_met : cells stages c ≡ 21 → standing P b stages levels c ≡ P.demand c * b
    unfolding standing
    standing_met e = rw e

    pub standing_low : 21 < cells stages c → standing P b stages levels c ≡ P.minimum c * b
    unfolding standing
    standing_low h =
        rw (
          le-ltb (cells stages c) 20 (omega arith),
          ne_eqb (cells stages c) 20 (λ e. omega arith),
          ne_eqb (cells stages c) 21 (λ e. omega arith),
        )

pub standing_same : (P : Problem) (b : ℕ) (new stages levels : List ℕ) (c : ℕ) → cells new c ≡ cells stages c
    → standing P b new levels c ≡ standing P b stages levels c
unfolding standing
standing_same P b new stages levels c e = rw e

module _ (cards : Bool) (capacities demands minima weights : List ℕ) where
  abbrev P : Problem
  P = problem cards capacities demands minima weights

  -- The tests of the engine are those of the filling.
  module _ (b : ℕ) (stages levels : List ℕ) (e : Next) where
    abbrev s : State
    s = state_of P b stages levels

    pub met_same : ((c : ℕ) → c < 64 → 0 < P.weight c) → (c : ℕ) → c < 64
        → met_at b e.high e.parts demands weights stages c ≡ meets P s e c
    unfolding state_of
    met_same weighed c hc = rw (rising_cell P b stages levels c hc) (go (eqb (cells stages c) 20))
      where
        go : (t : Bool)
            → (t && leb (cells demands c * (b * e.parts)) (e.high * cells weights c))
            ≡ (ltb 0 (on t (cells weights c)) && leb (cells demands c * b * e.parts) (e.high * on t (cells weights c)))
        go true = rw (lt-ltb 0 (cells weights c) (weighed c hc), mul_assoc (cells demands c) b e.parts)
        go false = refl

    -- Only a rising flow meets its demand.
    pub rising_of_meets : (c : ℕ) → c < 64 → meets P s e c ≡ true → cells stages c ≡ 20
    rising_of_meets c hc t = eqb-true _ _ (go (eqb (cells stages c) 20) refl)
      where
        go : (u : Bool) → eqb (cells stages c) 20 ≡ u → u ≡ true
        go true q = refl
        go false q = absurd (true_not_false t (rw (rising_cell P b stages levels c hc, q)))

    module _ (c : ℕ) (hc : c < 64) where
      stage_met : cells (met_stages (meets P s e) stages) c ≡ cond (meets P s e c) 21 (cells stages c)
      stage_met = cells-list 64 (λ c. cond (meets P s e c) 21 (cells stages c)) c hc

      met_fixed : (meets P s e c ≡ true) ⊎ (meets P s e c ≡ false) → standing P b (met_stages (meets P s e) stages) levels c
          ≡ cond (meets P s e c) (P.demand c * b) (cells s.fixed c)
      met_fixed (inl t) = rw t (standing_met P b (met_stages (meets P s e) stages) levels c (stage_met ∙ rw t))
      met_fixed (inr f) =
          rw (f, fixed_cell P b stages levels c hc)
          (standing_same P b (met_stages (meets P s e) stages) stages levels c (stage_met ∙ rw f))

      met_rising : (meets P s e c ≡ true) ⊎ (meets P s e c ≡ false)
          → rising_at P (met_stages (meets P s e) stages) c ≡ cond (meets P s e c) 0 (cells s.rising c)
      met_rising (inl t) = rw (stage_met, t)
      met_rising (inr f) = rw (stage_met, f) (sym (rising_cell P b stages levels c hc))

      met_waiting : (meets P s e c ≡ true) ⊎ (meets P s e c ≡ false)
          → waiting_at P (met_stages (meets P s e) stages) c ≡ waiting_at P stages c
      met_waiting (inl t) = rw (stage_met, t, rising_of_meets c hc t)
      met_waiting (inr f) = rw (stage_met, f)

    met_state : state_of P b (met_stages (meets P s e) stages) levels ≡ stop_met P s e
    unfolding state_of stop_met
    met_state =
        λ i. record {
          base = b;
          fixed = list_same 64 _ _ (λ c hc. met_fixed c hc (true_or_false (meets P s e c))) i;
          rising = list_same 64 _ _ (λ c hc. met_rising c hc (true_or_false (meets P s e c))) i;
          waiting = list_same 64 _ _ (λ c hc. met_waiting c hc (true_or_false (meets P s e c))) i;
        }

    -- Flows meet their demands, or none does.
    pub state_met : {new : List ℕ} → new ≡ met_stages (meets P s e) stages → state_of P b new levels ≡ stop_met P s e
    state_met q = ap (λ x. state_of P b x levels) q ∙ met_state

    pub state_met_none : some 64 (meets P s e) ≡ false → length stages ≡ 64 → met_stages (meets P s e) stages ≡ stages
    state_met_none none long =
        list_is 64 _ stages long (λ c hc. rw (none_of_some 64 (meets P s e) none c hc))

  -- At the start.
  module _ (c : ℕ) (hc : c < 64) where
    stage_start : cells (start_stages demands minima) c ≡ start_stage demands minima c
    stage_start = cells-list 64 (start_stage demands minima) c hc

    start_fixed : (levels : List ℕ) → (P.minimum c ≡ 0) ⊎ (0 < P.minimum c) → (P.demand c ≡ 0) ⊎ (0 < P.demand c)
        → standing P 1 (start_stages demands minima) levels c ≡ P.minimum c
    unfolding standing
    start_fixed levels (inr low) t = rw (stage_start, lt-ltb 0 (P.minimum c) low) (omega arith)
    start_fixed levels (inl none) (inl silent) = rw (stage_start, none, silent)
    start_fixed levels (inl none) (inr asks) = rw (stage_start, none, lt-ltb 0 (P.demand c) asks)

    start_rising : (P.minimum c ≡ 0) ⊎ (0 < P.minimum c) → (P.demand c ≡ 0) ⊎ (0 < P.demand c)
        → rising_at P (start_stages demands minima) c ≡ on (ltb 0 (P.demand c) && eqb (P.minimum c) 0) (P.weight c)
    start_rising (inr low) t =
        rw (stage_start, lt-ltb 0 (P.minimum c) low, ne_eqb (P.minimum c) 0 (ne_of_gt low), and-false)
    start_rising (inl none) (inl silent) = rw (stage_start, none, silent)
    start_rising (inl none) (inr asks) = rw (stage_start, none, lt-ltb 0 (P.demand c) asks)

    start_waiting : (P.minimum c ≡ 0) ⊎ (0 < P.minimum c) → (P.demand c ≡ 0) ⊎ (0 < P.demand c)
        → waiting_at P (start_stages demands minima) c ≡ on (ltb 0 (P.minimum c)) (P.weight c)
    start_waiting (inr low) t = rw (stage_start, lt-ltb 0 (P.minimum c) low)
    start_waiting (inl none) (inl silent) = rw (stage_start, none, silent)
    start_waiting (inl none) (inr asks) = rw (stage_start, none, lt-ltb 0 (P.demand c) asks)

  start_state : (levels : List ℕ) → state_of P 1 (start_stages demands minima) levels ≡ start P
  unfolding state_of start
  start_state levels =
      λ i. record {
        base = 1;
        fixed = list_same 64 _ _ (λ c hc. start_fixed c hc levels (low c) (asks c)) i;
        rising = list_same 64 _ _ (λ c hc. start_rising c hc (low c) (asks c)) i;
        waiting = list_same 64 _ _ (λ c hc. start_waiting c hc (low c) (asks c)) i;
      }
    where
      low : (c : ℕ) → (P.minimum c ≡ 0) ⊎ (0 < P.minimum c)
      low c = eq-zero-or-pos (P.minimum c)

      asks : (c : ℕ) → (P.demand c ≡ 0) ⊎ (0 < P.demand c)
      asks c = eq-zero-or-pos (P.demand c)

  pub state_start : {new : List ℕ} (levels : List ℕ) → new ≡ start_stages demands minima → state_of P 1 new levels ≡ start P
  state_start levels q = ap (λ x. state_of P 1 x levels) q ∙ start_state levels
