-- Flows' stages as the engine keeps them: a limit at which some flow has stopped is done with, whatever the engine does.
use Prim.Native.Nat.{ℕ, ◌≤◌, ◌<◌}
use mathlib.Core.Path.{◌≡◌, refl}
use mathlib.Core.Bool.{Bool, true, false, cond}
use mathlib.Core.List.{List}
use mathlib.Core.Logic.{◌⊎◌, inl, inr, ◌≢◌}
use native.Mathlib.Omega.{arith}
use lib.Dec.{ltb}
use lib.ListN.{length, set}
use lib.Seq.{get_or-set_same, get_or-set_other}
use borrow.Author.Tests.{ne_eqb}
use Rattle.laws.specs.Lists.{cells, list}
use Rattle.laws.proofs.Lists.{cells-list}
use Rattle.laws.proofs.Search.{le_or_lt, eq_or_not}
use Rattle.fairness.specs.Total.{total}
use Rattle.fairness.specs.Problem.{Problem}
use Rattle.fairness.proofs.Sums.{total-zero}
use Rattle.planner.specs.Limits.{limits_of}
use Rattle.planner.specs.Engine.{rising_at, start_stage, halted_stage, Resting, Done}

-- The five kinds of stage that a definition tells apart.
pub data Kind (g : ℕ) : Type 0 where
  halted : g < 20 → Kind g
  rises : g ≡ 20 → Kind g
  met : g ≡ 21 → Kind g
  waits : g ≡ 22 → Kind g
  held : 22 < g → Kind g

pub kind : (g : ℕ) → Kind g
kind g = go (le_or_lt g 22) (le_or_lt g 21) (le_or_lt g 20) (le_or_lt 20 g)
  where
    go : (g ≤ 22) ⊎ (22 < g) → (g ≤ 21) ⊎ (21 < g) → (g ≤ 20) ⊎ (20 < g) → (20 ≤ g) ⊎ (g < 20) → Kind g
    go (inr h) b c d = held h
    go (inl h) (inr k) c d = waits (omega arith)
    go (inl h) (inl k) (inr l) d = met (omega arith)
    go (inl h) (inl k) (inl l) (inl m) = rises (omega arith)
    go (inl h) (inl k) (inl l) (inr m) = halted m

-- The stages after some flows have met their demands, after limit l has filled, and at the start.
abbrev pub met_stages : (ℕ → Bool) → List ℕ → List ℕ
met_stages test stages = list 64 (λ c. cond (test c) 21 (cells stages c))

abbrev pub shut_stages : (ℕ → Bool) → ℕ → List ℕ → List ℕ
shut_stages inside l stages = list 64 (λ c. cond (inside c) (halted_stage l (cells stages c)) (cells stages c))

abbrev pub start_stages : List ℕ → List ℕ → List ℕ
start_stages demands minima = list 64 (start_stage demands minima)

pub limit_small : (cards : Bool) (l : ℕ) → l < limits_of cards → l < 20
limit_small true l h = h
limit_small false l h = omega arith

-- A flow at rest keeps its stage when a limit fills.
pub halted_resting : (l g : ℕ) → g ≢ 20 → g ≢ 22 → halted_stage l g ≡ g
halted_resting l g n m = rw (ne_eqb g 20 n, ne_eqb g 22 m)

pub resting_halted : (l g : ℕ) → l < 20 → Resting (halted_stage l g)
resting_halted l g h = go (kind g)
  where
    go : Kind g → Resting (halted_stage l g)
    go (halted k) =
        rw (halted_resting l g (λ e. omega arith) (λ e. omega arith)) ((λ e. omega arith), (λ e. omega arith))
    go (rises e) = rw e ((λ e. omega arith), (λ e. omega arith))
    go (met e) = rw e ((λ e. omega arith), (λ e. omega arith))
    go (waits e) = rw e ((λ e. omega arith), (λ e. omega arith))
    go (held k) =
        rw (halted_resting l g (λ e. omega arith) (λ e. omega arith)) ((λ e. omega arith), (λ e. omega arith))

pub stage_freed : (stages : List ℕ) (f : ℕ) → f < 64 → length stages ≡ 64 → cells (set stages f 20) f ≡ 20
stage_freed stages f hf long = get_or-set_same stages f 20 0 (rw long hf)

module _ (P : Problem) (stages : List ℕ) (done : Done P stages) where
  -- Nothing rises through a limit that is done with.
  pub limit_fresh : (l : ℕ) → 0 < total 64 (P.through l) (rising_at P stages) → (c : ℕ) → c < 64 → cells stages c ≡ l → l < 20 → ⊥
  limit_fresh l pos c hc e h =
      omega (arith, total-zero 64 (P.through l) (rising_at P stages) none)
    where
      none : (g : ℕ) → g < 64 → P.through l g ≡ true → rising_at P stages g ≡ 0
      none g hg m = rw (ne_eqb (cells stages g) 20 (done.idle c hc (rw e h) g hg (rw e m)).0)

  module _ (test : ℕ → Bool) where
    abbrev met_ones : List ℕ
    met_ones = met_stages test stages

    met_or_kept : (c : ℕ) → c < 64 → (cells met_ones c ≡ 21) ⊎ (cells met_ones c ≡ cells stages c)
    met_or_kept c hc = rw (cells-list 64 (λ c. cond (test c) 21 (cells stages c)) c hc) (go (test c))
      where
        go : (t : Bool) → (cond t 21 (cells stages c) ≡ 21) ⊎ (cond t 21 (cells stages c) ≡ cells stages c)
        go true = inl refl
        go false = inr refl

    pub done_met : Done P (met_stages test stages)
    done_met =
        record {
          listed = λ c hc h. listed c hc h (met_or_kept c hc);
          idle = λ c hc h g hg m. idle c hc h g hg m (met_or_kept c hc) (met_or_kept g hg);
        }
      where
        listed : (c : ℕ) → c < 64 → cells met_ones c < 20 → (cells met_ones c ≡ 21) ⊎ (cells met_ones c ≡ cells stages c)
            → cells met_ones c < P.limits
        listed c hc h (inl e) = absurd (omega arith)
        listed c hc h (inr e) = rw e (done.listed c hc (rw e at h))

        idle : (c : ℕ) → c < 64 → cells met_ones c < 20 → (g : ℕ) → g < 64 → P.through (cells met_ones c) g ≡ true
            → (cells met_ones c ≡ 21) ⊎ (cells met_ones c ≡ cells stages c)
            → (cells met_ones g ≡ 21) ⊎ (cells met_ones g ≡ cells stages g) → Resting (cells met_ones g)
        idle c hc h g hg m (inl e) there = absurd (omega arith)
        idle c hc h g hg m (inr e) (inl q) = rw q ((λ e. omega arith), (λ e. omega arith))
        idle c hc h g hg m (inr e) (inr q) = rw q (done.idle c hc (rw e at h) g hg (rw e at m))

  module _ (l : ℕ) (hl : l < P.limits) (small : l < 20) where
    abbrev shut_ones : List ℕ
    shut_ones = shut_stages (P.through l) l stages

    stage_shut : (c : ℕ) → c < 64
        → cells shut_ones c ≡ cond (P.through l c) (halted_stage l (cells stages c)) (cells stages c)
    stage_shut c hc = cells-list 64 (λ c. cond (P.through l c) (halted_stage l (cells stages c)) (cells stages c)) c hc

    -- a stage below 20 is l's, or it is an old one
    halted_or_kept : (g : ℕ) → halted_stage l g < 20 → Kind g → (halted_stage l g ≡ l) ⊎ (halted_stage l g ≡ g)
    halted_or_kept g h (halted k) = inr (halted_resting l g (λ e. omega arith) (λ e. omega arith))
    halted_or_kept g h (rises e) = inl (rw e)
    halted_or_kept g h (met e) = inr (rw e)
    halted_or_kept g h (waits e) = absurd (let k : 23 < 20 = rw e at h in omega arith)
    halted_or_kept g h (held k) = inr (halted_resting l g (λ e. omega arith) (λ e. omega arith))

    shut_or_kept : (c : ℕ) → c < 64 → cells shut_ones c < 20
        → (cells shut_ones c ≡ l) ⊎ (cells shut_ones c ≡ cells stages c)
    shut_or_kept c hc = rw (stage_shut c hc) (go (P.through l c))
      where
        go : (t : Bool) → cond t (halted_stage l (cells stages c)) (cells stages c) < 20
            → (cond t (halted_stage l (cells stages c)) (cells stages c) ≡ l)
            ⊎ (cond t (halted_stage l (cells stages c)) (cells stages c) ≡ cells stages c)
        go true h = halted_or_kept (cells stages c) h (kind (cells stages c))
        go false h = inr refl

    pub done_shut : Done P (shut_stages (P.through l) l stages)
    done_shut =
        record {
          listed = λ c hc h. listed c hc h (shut_or_kept c hc h);
          idle = λ c hc h g hg m. idle c hc h g hg m (shut_or_kept c hc h);
        }
      where
        listed : (c : ℕ) → c < 64 → cells shut_ones c < 20 → (cells shut_ones c ≡ l) ⊎ (cells shut_ones c ≡ cells stages c)
            → cells shut_ones c < P.limits
        listed c hc h (inl e) = rw e hl
        listed c hc h (inr e) = rw e (done.listed c hc (rw e at h))

        resting : (g : ℕ) (t : Bool) → Resting (cells stages g)
            → Resting (cond t (halted_stage l (cells stages g)) (cells stages g))
        resting g true old = rw (halted_resting l (cells stages g) old.0 old.1) old
        resting g false old = old

        idle : (c : ℕ) → c < 64 → cells shut_ones c < 20 → (g : ℕ) → g < 64 → P.through (cells shut_ones c) g ≡ true
            → (cells shut_ones c ≡ l) ⊎ (cells shut_ones c ≡ cells stages c) → Resting (cells shut_ones g)
        idle c hc h g hg m (inl e) =
            let inside : P.through l g ≡ true = rw e at m in
            rw (stage_shut g hg, inside) (resting_halted l (cells stages g) small)
        idle c hc h g hg m (inr e) =
            rw (stage_shut g hg) (resting g (P.through l g) (done.idle c hc (rw e at h) g hg (rw e at m)))

  module _ (f : ℕ) (hf : f < 64) (waiting : cells stages f ≡ 22) (long : length stages ≡ 64) where
    kept_or_freed : (c : ℕ) → (c ≡ f) ⊎ (cells (set stages f 20) c ≡ cells stages c)
    kept_or_freed c = go (eq_or_not c f)
      where
        go : (c ≡ f) ⊎ (c ≡ f → ⊥) → (c ≡ f) ⊎ (cells (set stages f 20) c ≡ cells stages c)
        go (inl e) = inl e
        go (inr n) = inr (get_or-set_other stages f c 20 0 n)

    pub done_free : Done P (set stages f 20)
    done_free =
        record {
          listed = λ c hc h. listed c hc h (kept_or_freed c);
          idle = λ c hc h g hg m. idle c hc h g hg m (kept_or_freed c) (kept_or_freed g);
        }
      where
        listed : (c : ℕ) → c < 64 → cells (set stages f 20) c < 20 → (c ≡ f) ⊎ (cells (set stages f 20) c ≡ cells stages c)
            → cells (set stages f 20) c < P.limits
        listed c hc h (inl e) = absurd (let k : 20 < 20 = rw (e, stage_freed stages f hf long) at h in omega arith)
        listed c hc h (inr e) = rw e (done.listed c hc (rw e at h))

        idle : (c : ℕ) → c < 64 → cells (set stages f 20) c < 20 → (g : ℕ) → g < 64
            → P.through (cells (set stages f 20) c) g ≡ true → (c ≡ f) ⊎ (cells (set stages f 20) c ≡ cells stages c)
            → (g ≡ f) ⊎ (cells (set stages f 20) g ≡ cells stages g) → Resting (cells (set stages f 20) g)
        idle c hc h g hg m (inl e) there = absurd (let k : 20 < 20 = rw (e, stage_freed stages f hf long) at h in omega arith)
        idle c hc h g hg m (inr e) (inl q) =
            absurd ((done.idle c hc (rw e at h) g hg (rw e at m)).1 (rw q waiting))
        idle c hc h g hg m (inr e) (inr q) = rw q (done.idle c hc (rw e at h) g hg (rw e at m))

pub done_start : (P : Problem) (demands minima : List ℕ) → Done P (start_stages demands minima)
done_start P demands minima =
    record { listed = λ c hc h. absurd (none c hc h); idle = λ c hc h g hg m. absurd (none c hc h) }
  where
    high : (s t : Bool) → cond s 22 (cond t 20 21) < 20 → ⊥
    high true t h = omega arith
    high false true h = omega arith
    high false false h = omega arith

    none : (c : ℕ) → c < 64 → cells (start_stages demands minima) c < 20 → ⊥
    none c hc h =
        high (ltb 0 (cells minima c)) (ltb 0 (cells demands c)) (rw (cells-list 64 (start_stage demands minima) c hc) at h)
