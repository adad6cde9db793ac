-- What each kind of round of the executable filling does is a step, and leaves less to be done.
use Prim.Native.Nat.{ℕ, ◌+◌, ◌*◌, ◌≤◌, ◌<◌}
use mathlib.Core.Path.{◌≡◌, refl, ap, ◌∙◌}
use mathlib.Core.Bool.{true, false, not, cond}
use mathlib.Core.Logic.{◌⊎◌, inl, inr}
use native.Mathlib.Nat.{eq-zero-or-pos, mul-zero, le_of_lt, add-sub_of_le}
use native.Mathlib.Omega.{arith}
use lib.Dec.{eqb, leb, ltb}
use borrow.Author.Tests.{ltb-true, leb-true, leb-false, lt-ltb, eq-eqb, ne_eqb}
use Rattle.fairness.specs.Total.{on}
use Rattle.fairness.specs.Problem.{Problem, across}
use Rattle.laws.specs.Lists.{cells}
use Rattle.fairness.specs.Filling.{State, Next, left, limit_next, meets, stop_met, shut, free, work}
use Rattle.fairness.specs.Round.{Stage, rises, waits, stopped, Underway, Shutting, Moved, kept, met, shut_off, freed, Step}
use Rattle.laws.proofs.Search.{eq_or_not, true_or_false, both_true}
use Rattle.fairness.proofs.Sums.{total_linear, total-on, total-one, one, one_self, one_other}
use Rattle.laws.proofs.Lists.{cells-list}

-- what is to be done for one flow
abbrev todo : State → ℕ → ℕ
todo s c = cells s.rising c + 2 * cells s.waiting c

-- no flow has more to be done, and one has less
work_falls : (P : Problem) (s t : State) → ((c : ℕ) → c < P.flows → todo t c ≤ todo s c)
    → (f : ℕ) → f < P.flows → todo t f < todo s f → work P t < work P s
unfolding work
work_falls P s t each f hf less =
    let sums =
    total_linear P.flows (λ c. true) (todo t) (one f) (todo s) (one f) 1 1 1 0
    (λ c hc e. go c hc (eq_or_not c f)) in
    omega (arith, total-one P.flows (λ c. true) f hf refl)
  where
    go : (c : ℕ) → c < P.flows → (c ≡ f) ⊎ (c ≡ f → ⊥) → todo t c * 1 + one f c * 1 ≤ todo s c * 1 + one f c * 0
    go c hc (inl e) = rw (e, one_self f) (omega arith)
    go c hc (inr n) = rw (one_other f c n) (omega (arith, each c hc))

-- A flow that does not meet its demand is not above it at the level.
pub below_demand : (P : Problem) (s : State) (e : Next) (c : ℕ) → meets P s e c ≡ false
    → e.high * cells s.rising c ≤ P.demand c * s.base * e.parts
below_demand P s e c f = go (eq-zero-or-pos (cells s.rising c))
  where
    go : (cells s.rising c ≡ 0) ⊎ (0 < cells s.rising c)
        → e.high * cells s.rising c ≤ P.demand c * s.base * e.parts
    go (inl z) = rw (z, mul-zero) (omega arith)
    go (inr pos) =
        let t : leb (P.demand c * s.base * e.parts) (e.high * cells s.rising c) ≡ false =
        rw (lt-ltb 0 (cells s.rising c) pos) at f in
        le_of_lt (leb-false _ _ t)

-- Flows that meet their demands stop.
module _ (P : Problem) (s : State) (e : Next) (c : ℕ) (hc : c < P.flows) where
  pub fixed_met : cells (stop_met P s e).fixed c ≡ cond (meets P s e c) (P.demand c * s.base) (cells s.fixed c)
  unfolding stop_met
  fixed_met = cells-list P.flows (λ c. cond (meets P s e c) (P.demand c * s.base) (cells s.fixed c)) c hc

  pub rising_met : cells (stop_met P s e).rising c ≡ cond (meets P s e c) 0 (cells s.rising c)
  unfolding stop_met
  rising_met = cells-list P.flows (λ c. cond (meets P s e c) 0 (cells s.rising c)) c hc

module _ (P : Problem) (s : State) (e : Next) (p q : ℕ) (now : Underway P s p q) where
  calm_of_rising : (c : ℕ) → 0 < cells s.rising c → Stage P s p q c → cells s.waiting c ≡ 0
  calm_of_rising c pos (rises r) = r.calm
  calm_of_rising c pos (waits w) = absurd (omega (arith, w.still))
  calm_of_rising c pos (stopped old) = old.calm

  module _ (c : ℕ) (hc : c < P.flows) where
    moved_met : (meets P s e c ≡ true) ⊎ (meets P s e c ≡ false) → Moved P s (stop_met P s e) e.high e.parts 1 c
    unfolding stop_met
    moved_met (inl t) =
        let tests = both_true (ltb 0 (cells s.rising c)) _ t in
        let pos = ltb-true 0 (cells s.rising c) tests.0 in
        met pos (leb-true _ _ tests.1) (rising_met P s e c hc ∙ rw t) (calm_of_rising c pos (now.stage c hc))
        (fixed_met P s e c hc ∙ rw t (omega arith))
    moved_met (inr f) = kept (rising_met P s e c hc ∙ rw f) refl (fixed_met P s e c hc ∙ rw f (omega arith)) (below_demand P s e c f)

    todo_met : (meets P s e c ≡ true) ⊎ (meets P s e c ≡ false) → todo (stop_met P s e) c ≤ todo s c
    unfolding stop_met
    todo_met (inl t) = rw (rising_met P s e c hc, t) (omega arith)
    todo_met (inr f) = rw (rising_met P s e c hc, f) (omega arith)

  pub step_met : Step P s (stop_met P s e) e.high e.parts 1
  unfolding stop_met
  step_met =
      record {
        positive = omega arith;
        base = omega arith;
        moved = λ c hc. moved_met c hc (true_or_false (meets P s e c));
      }

  pub work_met : (f : ℕ) → f < P.flows → meets P s e f ≡ true → work P (stop_met P s e) < work P s
  unfolding stop_met
  work_met f hf t =
      work_falls P s (stop_met P s e) (λ c hc. todo_met c hc (true_or_false (meets P s e c))) f hf
      (let pos = ltb-true 0 (cells s.rising f) (both_true (ltb 0 (cells s.rising f)) _ t).0 in
      rw (rising_met P s e f hf, t) (omega arith))

-- Limit l fills. Nobody meets a demand at or below the level.
module _ (P : Problem) (s : State) (l : ℕ) (hl : l < P.limits) (room : across P l (cells s.fixed) ≤ P.capacity l * s.base)
    (none : (c : ℕ) → c < P.flows
    → left P s l * cells s.rising c ≤ P.demand c * s.base * across P l (cells s.rising))
    (pos : 0 < across P l (cells s.rising)) where
  abbrev after : State
  after = shut P s (limit_next P s l) l

  module _ (c : ℕ) (hc : c < P.flows) where
    fixed_shut : cells after.fixed c
        ≡ cells s.fixed c * across P l (cells s.rising) + on (P.through l c) (cells s.rising c * left P s l)
    unfolding shut
    fixed_shut =
        cells-list P.flows
        (λ c. cells s.fixed c * across P l (cells s.rising) + on (P.through l c) (cells s.rising c * left P s l)) c hc

    rising_shut : cells after.rising c ≡ on (not (P.through l c)) (cells s.rising c)
    unfolding shut
    rising_shut = cells-list P.flows (λ c. on (not (P.through l c)) (cells s.rising c)) c hc

    waiting_shut : cells after.waiting c ≡ on (not (P.through l c)) (cells s.waiting c)
    unfolding shut
    waiting_shut = cells-list P.flows (λ c. on (not (P.through l c)) (cells s.waiting c)) c hc

  pub shutting : Shutting P s after (left P s l) (across P l (cells s.rising)) (across P l (cells s.rising)) l
  shutting =
      record {
        listed = hl;
        full = omega (arith, ap (λ x. x * across P l (cells s.rising)) (add-sub_of_le room));
        idle = λ g hg e. (rising_shut g hg ∙ rw e, waiting_shut g hg ∙ rw e);
        level = λ g hg e. ap (λ x. x * across P l (cells s.rising)) (fixed_shut g hg ∙ rw e);
      }

  moved_shut : (c : ℕ) → c < P.flows → (P.through l c ≡ true) ⊎ (P.through l c ≡ false)
      → Moved P s after (left P s l) (across P l (cells s.rising)) (across P l (cells s.rising)) c
  moved_shut c hc (inl e) = shut_off l e shutting (none c hc)
  moved_shut c hc (inr e) =
      kept (rising_shut c hc ∙ rw e) (waiting_shut c hc ∙ rw e) (fixed_shut c hc ∙ rw e (omega arith)) (none c hc)

  pub step_shut : Step P s after (left P s l) (across P l (cells s.rising)) (across P l (cells s.rising))
  unfolding shut
  step_shut = record { positive = pos; base = refl; moved = λ c hc. moved_shut c hc (true_or_false (P.through l c)) }

  todo_shut : (c : ℕ) → c < P.flows → (P.through l c ≡ true) ⊎ (P.through l c ≡ false)
      → todo after c + on (P.through l c) (cells s.rising c) ≤ todo s c
  todo_shut c hc (inl e) = rw (rising_shut c hc, waiting_shut c hc, e) (omega arith)
  todo_shut c hc (inr e) = rw (rising_shut c hc, waiting_shut c hc, e) (omega arith)

  pub work_shut : work P after < work P s
  unfolding work
  work_shut =
      let sums =
      total_linear P.flows (λ c. true) (todo after) (λ c. on (P.through l c) (cells s.rising c)) (todo s) (todo s) 1 1 1 0
      (λ c hc e. omega (arith, todo_shut c hc (true_or_false (P.through l c)))) in
      omega (arith, total-on P.flows (P.through l) (cells s.rising))

-- Flow f's minimum is reached.
module _ (P : Problem) (s : State) (f : ℕ) (hf : f < P.flows) (pos : 0 < cells s.waiting f) (still : cells s.rising f ≡ 0)
    (none : (c : ℕ) → c < P.flows
    → cells s.fixed f * cells s.rising c ≤ P.demand c * s.base * cells s.waiting f) where
  module _ (c : ℕ) (hc : c < P.flows) where
    fixed_free : cells (free P s f).fixed c ≡ cond (eqb c f) 0 (cells s.fixed c)
    unfolding free
    fixed_free = cells-list P.flows (λ c. cond (eqb c f) 0 (cells s.fixed c)) c hc

    rising_free : cells (free P s f).rising c ≡ cond (eqb c f) (cells s.waiting c) (cells s.rising c)
    unfolding free
    rising_free = cells-list P.flows (λ c. cond (eqb c f) (cells s.waiting c) (cells s.rising c)) c hc

    waiting_free : cells (free P s f).waiting c ≡ cond (eqb c f) 0 (cells s.waiting c)
    unfolding free
    waiting_free = cells-list P.flows (λ c. cond (eqb c f) 0 (cells s.waiting c)) c hc

    moved_free : (c ≡ f) ⊎ (c ≡ f → ⊥) → Moved P s (free P s f) (cells s.fixed f) (cells s.waiting f) 1 c
    moved_free (inl q) =
        freed (rw q pos) (rw q refl) (rising_free ∙ rw (eq-eqb c f q)) (waiting_free ∙ rw (eq-eqb c f q))
        (fixed_free ∙ rw (eq-eqb c f q))
    moved_free (inr n) =
        kept (rising_free ∙ rw (ne_eqb c f n)) (waiting_free ∙ rw (ne_eqb c f n)) (fixed_free ∙ rw (ne_eqb c f n) (omega arith))
        (none c hc)

    todo_free : (c ≡ f) ⊎ (c ≡ f → ⊥) → todo (free P s f) c ≤ todo s c
    todo_free (inl q) = rw (rising_free, waiting_free, eq-eqb c f q) (omega arith)
    todo_free (inr n) = rw (rising_free, waiting_free, ne_eqb c f n) (omega arith)

  pub step_free : Step P s (free P s f) (cells s.fixed f) (cells s.waiting f) 1
  unfolding free
  step_free = record { positive = omega arith; base = omega arith; moved = λ c hc. moved_free c hc (eq_or_not c f) }

  pub work_free : work P (free P s f) < work P s
  work_free =
      work_falls P s (free P s f) (λ c hc. todo_free c hc (eq_or_not c f)) f hf
      (rw (rising_free f hf, waiting_free f hf, eq-eqb f f refl) (omega arith))
