-- A filling starts at level 0, with nothing counted yet.
use Prim.Native.Nat.{ℕ, ◌*◌, ◌≤◌, ◌<◌}
use mathlib.Core.Path.{◌≡◌, refl, ◌∙◌}
use mathlib.Core.Bool.{true, ◌&&◌, and-false}
use mathlib.Core.List.{[]}
use mathlib.Core.Logic.{◌⊎◌, inl, inr}
use native.Mathlib.Nat.{eq-zero-or-pos, ne_of_gt}
use native.Mathlib.Omega.{arith}
use lib.Dec.{eqb, ltb}
use borrow.Author.Tests.{lt-ltb, ltb-true, ne_eqb}
use Rattle.fairness.specs.Total.{on}
use Rattle.fairness.specs.Product.{sum, product}
use Rattle.fairness.specs.Problem.{Problem, Sound, across}
use Rattle.laws.specs.Lists.{cells}
use Rattle.fairness.specs.Filling.{start}
use Rattle.fairness.specs.Round.{Stage, rises, waits, stopped, Underway, Counted, live, afoot, is_open, opens, busy, busy_weight, busy_limits}
use Rattle.fairness.proofs.Sums.{total-le, on_one}
use Rattle.laws.proofs.Lists.{cells-list}

module _ (P : Problem) (sound : Sound P) where
  fixed_at_start : (c : ℕ) → c < P.flows → cells (start P).fixed c ≡ P.minimum c
  unfolding start
  fixed_at_start c hc = cells-list P.flows P.minimum c hc

  rising_at_start : (c : ℕ) → c < P.flows
      → cells (start P).rising c ≡ on (ltb 0 (P.demand c) && eqb (P.minimum c) 0) (P.weight c)
  unfolding start
  rising_at_start c hc = cells-list P.flows (λ c. on (ltb 0 (P.demand c) && eqb (P.minimum c) 0) (P.weight c)) c hc

  waiting_at_start : (c : ℕ) → c < P.flows → cells (start P).waiting c ≡ on (ltb 0 (P.minimum c)) (P.weight c)
  unfolding start
  waiting_at_start c hc = cells-list P.flows (λ c. on (ltb 0 (P.minimum c)) (P.weight c)) c hc

  stage_at_start : (c : ℕ) → c < P.flows → (P.minimum c ≡ 0) ⊎ (0 < P.minimum c) → (P.demand c ≡ 0) ⊎ (0 < P.demand c)
      → Stage P (start P) 0 1 c
  unfolding start
  stage_at_start c hc (inr low) t =
      waits (record {
        still = rising_at_start c hc ∙ rw (ne_eqb (P.minimum c) 0 (ne_of_gt low), and-false);
        waits = waiting_at_start c hc ∙ rw (lt-ltb 0 (P.minimum c) low);
        here = omega (arith, fixed_at_start c hc);
        ahead = omega arith;
      })
  stage_at_start c hc (inl none) (inl silent) =
      stopped (record {
        still = rising_at_start c hc ∙ rw silent;
        calm = waiting_at_start c hc ∙ rw none;
        at_least = omega (arith, fixed_at_start c hc);
        at_most = omega (arith, fixed_at_start c hc);
        passed = inr (omega (arith, fixed_at_start c hc));
        why = inl (omega (arith, fixed_at_start c hc));
      })
  stage_at_start c hc (inl none) (inr asks) =
      rises (record {
        up = rising_at_start c hc ∙ rw (lt-ltb 0 (P.demand c) asks, none);
        calm = waiting_at_start c hc ∙ rw none;
        unfixed = omega (arith, fixed_at_start c hc);
        low = omega arith;
        high = omega arith;
      })

  pub underway_at_start : Underway P (start P) 0 1
  unfolding start
  underway_at_start =
      record {
        based = omega arith;
        parted = omega arith;
        stage = λ c hc. stage_at_start c hc (eq-zero-or-pos (P.minimum c)) (eq-zero-or-pos (P.demand c));
        room = λ l hl.
            let sums =
            total-le P.flows (P.through l) (cells (start P).fixed) P.minimum 1 1
            (λ c hc e. omega (arith, fixed_at_start c hc)) in
            omega (arith, sound.fits l hl);
      }

  pub counted_at_start : Counted P (start P) (start P)
  unfolding start sum product
  counted_at_start = record { divisors = []; base = refl; few = omega arith; small = omega arith }

  -- only flows that ask for something are afoot
  live_at_start : (c : ℕ) → c < P.flows → (P.minimum c ≡ 0) ⊎ (0 < P.minimum c) → (P.demand c ≡ 0) ⊎ (0 < P.demand c)
      → live (start P) c ≤ busy P c
  live_at_start c hc (inr low) t =
      rw (
        rising_at_start c hc,
        waiting_at_start c hc,
        ne_eqb (P.minimum c) 0 (ne_of_gt low),
        and-false,
        lt-ltb 0 (P.minimum c) low,
        lt-ltb 0 (P.demand c) (omega (arith, sound.least c hc)),
      )
      (omega arith)
  live_at_start c hc (inl none) (inl silent) =
      rw (rising_at_start c hc, waiting_at_start c hc, none, silent) (omega arith)
  live_at_start c hc (inl none) (inr asks) =
      rw (rising_at_start c hc, waiting_at_start c hc, none, lt-ltb 0 (P.demand c) asks) (omega arith)

  live_busy : (c : ℕ) → c < P.flows → live (start P) c * 1 ≤ busy P c * 1
  live_busy c hc = omega (arith, live_at_start c hc (eq-zero-or-pos (P.minimum c)) (eq-zero-or-pos (P.demand c)))

  pub afoot_at_start : afoot P (start P) ≤ busy_weight P
  afoot_at_start =
      let sums = total-le P.flows (λ c. true) (live (start P)) (busy P) 1 1 (λ c hc e. live_busy c hc) in omega arith

  pub opens_at_start : opens P (start P) ≤ busy_limits P
  opens_at_start =
      let sums =
      total-le P.limits (λ l. true) (λ l. on (is_open P (start P) l) 1) (λ l. on (ltb 0 (across P l (busy P))) 1) 1 1
      (λ l hl e. omega (arith, on_one (is_open P (start P) l) (ltb 0 (across P l (busy P))) (open_busy l))) in
      omega arith
    where
      open_busy : (l : ℕ) → is_open P (start P) l ≡ true → ltb 0 (across P l (busy P)) ≡ true
      open_busy l e =
          let sums = total-le P.flows (P.through l) (live (start P)) (busy P) 1 1 (λ c hc m. live_busy c hc) in
          lt-ltb 0 (across P l (busy P)) (omega (arith, ltb-true 0 (across P l (live (start P))) e))
