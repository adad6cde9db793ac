-- A round keeps what holds of a filling, and when nothing rises or waits any more the rates are fair.
use Prim.Native.Nat.{ℕ, ◌+◌, ◌*◌, ◌≤◌, ◌<◌}
use mathlib.Core.Path.{◌≡◌, ap, ◌∙◌}
use mathlib.Core.Bool.{true}
use mathlib.Core.Logic.{◌⊎◌, inl, inr}
use native.Mathlib.Nat.{mul-le-mul_right, le_of_mul-le-mul_right, eq_of_mul-eq-mul_right, mul-pos, le_antisymm}
use native.Mathlib.Omega.{arith}
use Rattle.fairness.specs.Problem.{Problem, Sound, across}
use Rattle.fairness.specs.Fairness.{Fair, SettledAt}
use Rattle.laws.specs.Lists.{cells}
use Rattle.fairness.specs.Filling.{State, rates_of}
use Rattle.fairness.specs.Round.{Closed, Rising, Waiting, Stopped, Stage, rises, waits, stopped, Underway, Reached, Shutting}
use Rattle.fairness.specs.Round.{Moved, kept, met, shut_off, freed, Step}
use Rattle.laws.proofs.Search.{le_or_lt}
use Rattle.fairness.proofs.Sums.{total_linear, total_equal}
use Rattle.fairness.proofs.Settled.{fair_of_settled}

module _ (P : Problem) (sound : Sound P) (s t : State) (p q a k m : ℕ)
    (now : Underway P s p q) (up : Reached P s p q a k) (step : Step P s t a k m) where
  -- what the old level has reached the new one has too
  raised : (x w : ℕ) → x * q ≤ p * w → x * k ≤ a * w
  raised x w h =
      le_of_mul-le-mul_right {k = q}
      (omega (arith, mul-le-mul_right k h, mul-le-mul_right w up.above)) now.parted

  cancel : {x y : ℕ} → x * k ≡ y * k → x ≡ y
  cancel {x} {y} e = eq_of_mul-eq-mul_right k up.parted x y e

  -- a flow that has stopped keeps its rate
  Same : ℕ → Type 0
  Same c = (cells t.rising c ≡ 0) × (cells t.waiting c ≡ 0) × (cells t.fixed c ≡ cells s.fixed c * m)

  at_level : (l c : ℕ) → c < P.flows → P.through l c ≡ true → Shutting P s t a k m l → cells s.rising c ≡ 0
      → cells t.fixed c ≡ cells s.fixed c * m
  at_level l c hc e shutting r =
      cancel (omega (arith, shutting.level c hc e, ap (λ x. x * (a * m)) r))

  same_of_stopped : (c : ℕ) → c < P.flows → cells s.rising c ≡ 0 → cells s.waiting c ≡ 0 → Moved P s t a k m c → Same c
  unfolding Same
  same_of_stopped c hc r w (kept er ew ef h) = (er ∙ r, ew ∙ w, ef)
  same_of_stopped c hc r w (met pos h er ew ef) = absurd (omega arith)
  same_of_stopped c hc r w (shut_off l e shutting h) =
      ((shutting.idle c hc e).0, (shutting.idle c hc e).1, at_level l c hc e shutting r)
  same_of_stopped c hc r w (freed pos e er ew ef) = absurd (omega arith)

  closed_after : (l c : ℕ) → Closed P s l c → cells t.fixed c ≡ cells s.fixed c * m → Closed P t l c
  unfolding Same
  closed_after l c closed ec =
      record {
        passes = closed.passes;
        idle = λ g hg e. ((same g hg e).0, (same g hg e).1);
        full = omega (arith, sums, ap (λ x. x * m) closed.full, ap (λ x. P.capacity l * x) step.base);
        highest = λ g hg e. highest g (same g hg e).2 (closed.highest g hg e);
      }
    where
      same : (g : ℕ) → g < P.flows → P.through l g ≡ true → Same g
      same g hg e = same_of_stopped g hg (closed.idle g hg e).0 (closed.idle g hg e).1 (step.moved g hg)

      sums : across P l (cells t.fixed) * 1 ≡ across P l (cells s.fixed) * m + across P l (cells s.fixed) * 0
      sums =
          total_equal P.flows (P.through l) (cells t.fixed) (cells s.fixed) (cells s.fixed) 1 m 0
          (λ g hg e. omega (arith, (same g hg e).2))

      highest : (g : ℕ) → cells t.fixed g ≡ cells s.fixed g * m
          → (cells s.fixed g * P.weight c ≤ cells s.fixed c * P.weight g) ⊎ (cells s.fixed g ≡ P.minimum g * s.base)
          → (cells t.fixed g * P.weight c ≤ cells t.fixed c * P.weight g) ⊎ (cells t.fixed g ≡ P.minimum g * t.base)
      highest g eg (inl h) = inl (rw (eg, ec) (omega (arith, mul-le-mul_right m h)))
      highest g eg (inr e) = inr (rw (eg, step.base) (omega (arith, ap (λ x. x * m) e)))

  stopped_after : (c : ℕ) → Stopped P s p q c → Same c → Stopped P t (a * m) k c
  unfolding Same
  stopped_after c old (r, w, ef) =
      record {
        still = r;
        calm = w;
        at_least = rw (ef, step.base) (omega (arith, mul-le-mul_right m old.at_least));
        at_most = rw (ef, step.base) (omega (arith, mul-le-mul_right m old.at_most));
        passed = passed old.passed;
        why = why old.why;
      }
    where
      passed : (cells s.fixed c * q ≤ p * P.weight c) ⊎ (cells s.fixed c ≡ P.minimum c * s.base)
          → (cells t.fixed c * k ≤ a * m * P.weight c) ⊎ (cells t.fixed c ≡ P.minimum c * t.base)
      passed (inl h) = inl (rw ef (omega (arith, mul-le-mul_right m (raised (cells s.fixed c) (P.weight c) h))))
      passed (inr e) = inr (rw (ef, step.base) (omega (arith, ap (λ x. x * m) e)))

      why : (cells s.fixed c ≡ P.demand c * s.base) ⊎ ((l : ℕ) × (l < P.limits) × Closed P s l c)
          → (cells t.fixed c ≡ P.demand c * t.base) ⊎ ((l : ℕ) × (l < P.limits) × Closed P t l c)
      why (inl e) = inl (rw (ef, step.base) (omega (arith, ap (λ x. x * m) e)))
      why (inr (l, hl, closed)) = inr (l, hl, closed_after l c closed ef)

  -- At a limit that shuts no flow ends above the level unless it stands at its minimum, and what rose or waited there
  -- does not end below it: so the limit is why these stop.
  below_level : (l g : ℕ) → g < P.flows → P.through l g ≡ true → Shutting P s t a k m l → Stage P s p q g
      → (cells t.fixed g * k ≤ a * m * P.weight g) ⊎ (cells t.fixed g ≡ P.minimum g * t.base)
  below_level l g hg e shutting (rises r) =
      inl (omega (arith, shutting.level g hg e, ap (λ x. x * (k * m)) r.unfixed, ap (λ x. x * (a * m)) r.up))
  below_level l g hg e shutting (waits w) =
      inr (rw (at_level l g hg e shutting w.still, step.base) (omega (arith, ap (λ x. x * m) w.here)))
  below_level l g hg e shutting (stopped old) = go old.passed
    where
      ef : cells t.fixed g ≡ cells s.fixed g * m
      ef = at_level l g hg e shutting old.still

      go : (cells s.fixed g * q ≤ p * P.weight g) ⊎ (cells s.fixed g ≡ P.minimum g * s.base)
          → (cells t.fixed g * k ≤ a * m * P.weight g) ⊎ (cells t.fixed g ≡ P.minimum g * t.base)
      go (inl h) = inl (rw ef (omega (arith, mul-le-mul_right m (raised (cells s.fixed g) (P.weight g) h))))
      go (inr h) = inr (rw (ef, step.base) (omega (arith, ap (λ x. x * m) h)))

  closed_by : (l c : ℕ) → P.through l c ≡ true → Shutting P s t a k m l → a * m * P.weight c ≤ cells t.fixed c * k → Closed P t l c
  closed_by l c e shutting high =
      record {
        passes = e;
        idle = shutting.idle;
        full = cancel (omega (arith, sums, ap (λ x. x * m) shutting.full, ap (λ x. P.capacity l * x * k) step.base));
        highest = λ g hg eg. highest g (below_level l g hg eg shutting (now.stage g hg));
      }
    where
      sums : across P l (cells t.fixed) * k ≡ across P l (cells s.fixed) * (k * m) + across P l (cells s.rising) * (a * m)
      sums =
          total_equal P.flows (P.through l) (cells t.fixed) (cells s.fixed) (cells s.rising) k (k * m) (a * m)
          (λ g hg eg. omega (arith, shutting.level g hg eg))

      highest : (g : ℕ) → (cells t.fixed g * k ≤ a * m * P.weight g) ⊎ (cells t.fixed g ≡ P.minimum g * t.base)
          → (cells t.fixed g * P.weight c ≤ cells t.fixed c * P.weight g) ⊎ (cells t.fixed g ≡ P.minimum g * t.base)
      highest g (inl h) =
          inl (le_of_mul-le-mul_right {k = k}
          (omega (arith, mul-le-mul_right (P.weight c) h, mul-le-mul_right (P.weight g) high)) up.parted)
      highest g (inr h) = inr h

  rises_after : (c : ℕ) → c < P.flows → Rising P s p q c → Moved P s t a k m c → Stage P t (a * m) k c
  rises_after c hc old (kept er ew ef h) =
      rises (record {
        up = er ∙ old.up;
        calm = ew ∙ old.calm;
        unfixed = rw (ef, old.unfixed) (omega arith);
        low = rw step.base (omega (arith, mul-le-mul_right m (raised (P.minimum c * s.base) (P.weight c) old.low)));
        high = rw step.base (omega (arith, mul-le-mul_right m (rw old.up at h)));
      })
  rises_after c hc old (met pos h er ew ef) =
      stopped (record {
        still = er;
        calm = ew;
        at_least = rw (ef, step.base) (omega (arith, mul-le-mul_right (s.base * m) (sound.least c hc)));
        at_most = rw (ef, step.base) (omega arith);
        passed = inl (rw ef (omega (arith, mul-le-mul_right m (rw old.up at h))));
        why = inl (rw (ef, step.base) (omega arith));
      })
  rises_after c hc old (shut_off l e shutting h) =
      stopped (record {
        still = (shutting.idle c hc e).0;
        calm = (shutting.idle c hc e).1;
        at_least =
            le_of_mul-le-mul_right {k = k}
            (rw step.base (omega (arith, at, mul-le-mul_right m (raised (P.minimum c * s.base) (P.weight c) old.low))))
            up.parted;
        at_most =
            le_of_mul-le-mul_right {k = k} (rw step.base (omega (arith, at, mul-le-mul_right m (rw old.up at h)))) up.parted;
        passed = inl (omega (arith, at));
        why = inr (l, shutting.listed, closed_by l c e shutting (omega (arith, at)));
      })
    where
      at : cells t.fixed c * k ≡ a * m * P.weight c
      at = omega (arith, shutting.level c hc e, ap (λ x. x * (k * m)) old.unfixed, ap (λ x. x * (a * m)) old.up)
  rises_after c hc old (freed pos e er ew ef) = absurd (omega (arith, old.calm))

  waits_after : (c : ℕ) → c < P.flows → Waiting P s p q c → Moved P s t a k m c → Stage P t (a * m) k c
  waits_after c hc old (kept er ew ef h) =
      waits (record {
        still = er ∙ old.still;
        waits = ew ∙ old.waits;
        here = rw (ef, step.base) (omega (arith, ap (λ x. x * m) old.here));
        ahead = rw step.base (omega (arith, mul-le-mul_right m (rw (old.waits, old.here) at (up.ahead c hc))));
      })
  waits_after c hc old (met pos h er ew ef) = absurd (omega (arith, old.still))
  waits_after c hc old (shut_off l e shutting h) =
      stopped (record {
        still = (shutting.idle c hc e).0;
        calm = (shutting.idle c hc e).1;
        at_least = rw step.base (omega (arith, at));
        at_most = rw step.base (omega (arith, at, mul-le-mul_right (s.base * m) (sound.least c hc)));
        passed = inr (rw step.base (omega (arith, at)));
        why = inr (
          l,
          shutting.listed,
          closed_by l c e shutting
              (omega (arith, ap (λ x. x * k) at, mul-le-mul_right m (rw (old.waits, old.here) at (up.ahead c hc)))),
        );
      })
    where
      at : cells t.fixed c ≡ P.minimum c * s.base * m
      at = at_level l c hc e shutting old.still ∙ ap (λ x. x * m) old.here
  waits_after c hc old (freed pos e er ew ef) =
      let level : P.minimum c * s.base * k ≡ a * P.weight c = rw (old.here, old.waits) at e in
      rises (record {
        up = er ∙ old.waits;
        calm = ew;
        unfixed = ef;
        low = rw step.base (omega (arith, ap (λ x. x * m) level));
        high = rw step.base (omega (arith, ap (λ x. x * m) level, mul-le-mul_right (s.base * m * k) (sound.least c hc)));
      })

  stage_after : (c : ℕ) → c < P.flows → Stage P s p q c → Stage P t (a * m) k c
  stage_after c hc (rises old) = rises_after c hc old (step.moved c hc)
  stage_after c hc (waits old) = waits_after c hc old (step.moved c hc)
  stage_after c hc (stopped old) = stopped (stopped_after c old (same_of_stopped c hc old.still old.calm (step.moved c hc)))

  -- at the new level no flow takes more than it did at that level before
  no_more : (c : ℕ) → c < P.flows → Stage P s p q c → Moved P s t a k m c
      → cells t.fixed c * k + cells t.rising c * (a * m) ≤ cells s.fixed c * (k * m) + cells s.rising c * (a * m)
  no_more c hc st (kept er ew ef h) = rw (er, ef) (omega arith)
  no_more c hc st (met pos h er ew ef) = rw (er, ef) (omega (arith, mul-le-mul_right m h))
  no_more c hc st (shut_off l e shutting h) =
      rw (shutting.idle c hc e).0 (omega (arith, shutting.level c hc e))
  no_more c hc st (freed pos e er ew ef) = rw (er, ef) (omega (arith, ap (λ x. x * m) e))

  pub underway_after : Underway P t (a * m) k
  underway_after =
      record {
        based = rw step.base (mul-pos now.based step.positive);
        parted = up.parted;
        stage = λ c hc. stage_after c hc (now.stage c hc);
        room = λ l hl.
            let sums =
            total_linear P.flows (P.through l) (cells t.fixed) (cells t.rising) (cells s.fixed) (cells s.rising)
            k (a * m) (k * m) (a * m) (λ c hc e. no_more c hc (now.stage c hc) (step.moved c hc)) in
            rw step.base (omega (arith, mul-le-mul_right m (up.room l hl)));
      }

-- When nothing rises or waits any more, the rates are feasible, bounded and settled.
module _ (P : Problem) (s : State) (p q : ℕ) (now : Underway P s p q)
    (still : (c : ℕ) → c < P.flows → (cells s.rising c ≡ 0) × (cells s.waiting c ≡ 0))
    (weighed : (c : ℕ) → c < P.flows → 0 < P.weight c) where
  all_stopped : (c : ℕ) → c < P.flows → Stage P s p q c → Stopped P s p q c
  all_stopped c hc (rises r) = absurd (omega (arith, r.up, (still c hc).0, weighed c hc))
  all_stopped c hc (waits w) = absurd (omega (arith, w.waits, (still c hc).1, weighed c hc))
  all_stopped c hc (stopped old) = old

  end : (c : ℕ) → c < P.flows → Stopped P s p q c
  end c hc = all_stopped c hc (now.stage c hc)

  settled_at_end : (c : ℕ) → c < P.flows → SettledAt P (rates_of s) c
  settled_at_end c hc = go (end c hc).why (le_or_lt (P.demand c * s.base) (cells s.fixed c))
    where
      go : (cells s.fixed c ≡ P.demand c * s.base) ⊎ ((l : ℕ) × (l < P.limits) × Closed P s l c)
          → (P.demand c * s.base ≤ cells s.fixed c) ⊎ (cells s.fixed c < P.demand c * s.base)
          → SettledAt P (rates_of s) c
      go (inl e) t = inl e
      go (inr w) (inl h) = inl (le_antisymm (end c hc).at_most h)
      go (inr (l, hl, closed)) (inr h) =
          inr (l, hl, record { passes = closed.passes; below = h; full = closed.full; highest = closed.highest })

  pub fair_at_end : Fair P (rates_of s)
  fair_at_end =
      fair_of_settled P (rates_of s)
      (record {
        positive = now.based;
        feasible =
            record {
              room = λ l hl. le_of_mul-le-mul_right {k = q} (omega (arith, now.room l hl)) now.parted;
            };
        bounded = record { at_least = λ c hc. (end c hc).at_least; at_most = λ c hc. (end c hc).at_most };
      })
      (record { each = settled_at_end })
