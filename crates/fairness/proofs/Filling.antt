-- The executable filling ends with a fair allocation, for every sound problem, and its base is a product of few divisors.
use Prim.Native.Nat.{ℕ, zero, suc, ◌+◌, ◌*◌, ◌≤◌, ◌<◌}
use mathlib.Core.Path.{◌≡◌, refl, ap, sym, ◌∙◌}
use mathlib.Core.Bool.{Bool, true, false}
use mathlib.Core.Logic.{◌⊎◌, inl, inr}
use native.Mathlib.Nat.{le_of_mul-le-mul_right, pos_of_ne-zero, add-sub_of_le, le_refl}
use native.Mathlib.Omega.{arith}
use lib.Dec.{eqb}
use borrow.Author.Tests.{eqb-true, eqb-false}
use Rattle.fairness.specs.Problem.{Problem, Sound, across}
use Rattle.fairness.specs.Fairness.{Fair}
use Rattle.laws.specs.Lists.{cells}
use Rattle.fairness.specs.Filling.{State, Event, nothing, fills, reaches, start, never, left, limit_next, flow_next, lowest, next}
use Rattle.fairness.specs.Filling.{meets, some, stop_met, shut, free, happen, round, fill, work, filled, rates_of}
use Rattle.fairness.specs.Round.{Stage, rises, waits, stopped, Reached, Shutting, Step, Counted, Between}
use Rattle.fairness.proofs.Sums.{member_le_total}
use Rattle.fairness.proofs.Some.{none_of_some, one_of_some}
use Rattle.fairness.proofs.Lowest.{Below, Lowest, lowest_is, below_trans}
use Rattle.fairness.proofs.Round.{underway_after, fair_at_end}
use Rattle.fairness.proofs.Counted.{counted_same, counted_shut}
use Rattle.fairness.proofs.Start.{underway_at_start, counted_at_start}
use Rattle.fairness.proofs.Steps.{below_demand, step_met, work_met, shutting, step_shut, work_shut, step_free, work_free}

-- The end of a filling: fair rates, over a base that is a product of few divisors.
pub record Ended (P : Problem) (s : State) : Type 0 where
  pub fair : Fair P (rates_of s)
  pub counted : Counted P (start P) s

-- Events are told apart by a number for the kind and one for the limit or flow.
abbrev kind_of : Event → ℕ
kind_of nothing = 0
kind_of (fills l) = 1
kind_of (reaches c) = 2

abbrev number_of : Event → ℕ
number_of nothing = 0
number_of (fills l) = l
number_of (reaches c) = c

module _ (P : Problem) (sound : Sound P) (s : State) (at : Between P s) where
  inner : Lowest P.limits (limit_next P s) never (lowest P.limits (limit_next P s) never)
  inner = lowest_is P.limits (limit_next P s) never (inl (omega arith))

  outer : Lowest P.flows (flow_next s) (lowest P.limits (limit_next P s) never) (next P s)
  unfolding next
  outer = lowest_is P.flows (flow_next s) (lowest P.limits (limit_next P s) never) inner.proper

  below_limit : (l : ℕ) → l < P.limits → Below (next P s) (limit_next P s l)
  below_limit l hl =
      below_trans (next P s) (lowest P.limits (limit_next P s) never) (limit_next P s l) inner.proper outer.beyond
      (inner.each l hl)

  pub fixed_fits : (l : ℕ) → l < P.limits → across P l (cells s.fixed) ≤ P.capacity l * s.base
  fixed_fits l hl =
      le_of_mul-le-mul_right {k = at.q} (omega (arith, at.underway.room l hl)) at.underway.parted

  room_at_next : (l : ℕ) → l < P.limits
      → across P l (cells s.fixed) * (next P s).parts + across P l (cells s.rising) * (next P s).high
      ≤ P.capacity l * s.base * (next P s).parts
  room_at_next l hl =
      omega (arith, below_limit l hl, ap (λ x. x * (next P s).parts) (add-sub_of_le (fixed_fits l hl)))

  reached : 0 < (next P s).parts → at.p * (next P s).parts ≤ (next P s).high * at.q
      → Reached P s at.p at.q (next P s).high (next P s).parts
  reached pos above = record { parted = pos; above = above; room = room_at_next; ahead = outer.each }

  -- nothing can happen any more only if nothing rises or waits
  quiet : next P s ≡ never → (c : ℕ) → c < P.flows → (cells s.rising c ≡ 0) × (cells s.waiting c ≡ 0)
  quiet e c hc =
      let w = sound.placed c hc in
      let none : Below never (limit_next P s w.0) = rw e at (below_limit w.0 w.1) in
      let idle : Below never (flow_next s c) = rw e at (outer.each c hc) in
      (omega (arith, member_le_total P.flows (P.through w.0) (cells s.rising) c hc w.2), omega arith)

  -- the level of what happens next is no lower than the level now
  above_limit : (l : ℕ) → l < P.limits → next P s ≡ limit_next P s l → at.p * (next P s).parts ≤ (next P s).high * at.q
  above_limit l hl e =
      rw e (omega (arith, at.underway.room l hl, ap (λ x. x * at.q) (add-sub_of_le (fixed_fits l hl))))

  above_flow : (c : ℕ) → 0 < cells s.waiting c → next P s ≡ flow_next s c → Stage P s at.p at.q c
      → (at.p * (next P s).parts ≤ (next P s).high * at.q) × (cells s.rising c ≡ 0)
  above_flow c pos e (rises r) = absurd (omega (arith, r.calm))
  above_flow c pos e (waits w) = (rw (e, w.waits, w.here) w.ahead, w.still)
  above_flow c pos e (stopped old) = absurd (omega (arith, old.calm))

  -- One round on.
  abbrev pub Further : State → Type 0
  Further t = Between P t × (work P t < work P s)

  met_further : 0 < (next P s).parts → at.p * (next P s).parts ≤ (next P s).high * at.q
      → some P.flows (meets P s (next P s)) ≡ true → Further (stop_met P s (next P s))
  met_further pos above e =
      let w = one_of_some P.flows (meets P s (next P s)) e in
      let step = step_met P s (next P s) at.p at.q at.underway in (
        record {
          p = (next P s).high * 1;
          q = (next P s).parts;
          underway = underway_after P sound s _ at.p at.q _ _ 1 at.underway (reached pos above) step;
          counted = counted_same P (start P) s _ _ _ step at.counted;
        },
        work_met P s (next P s) at.p at.q at.underway w.0 w.1 w.2,
      )

  none_meets : some P.flows (meets P s (next P s)) ≡ false → (c : ℕ) → c < P.flows
      → (next P s).high * cells s.rising c ≤ P.demand c * s.base * (next P s).parts
  none_meets e c hc = below_demand P s (next P s) c (none_of_some P.flows (meets P s (next P s)) e c hc)

  shut_further : (l : ℕ) → l < P.limits → next P s ≡ limit_next P s l → 0 < (next P s).parts
      → some P.flows (meets P s (next P s)) ≡ false → Further (happen P s (next P s) (next P s).event)
  unfolding happen
  shut_further l hl e pos f =
      rw e (
        record {
          p = left P s l * across P l (cells s.rising);
          q = across P l (cells s.rising);
          underway = underway_after P sound s _ at.p at.q _ _ _ at.underway up step;
          counted = counted_shut P (start P) s _ _ _ l parts refl step closing at.counted;
        },
        work_shut P s l hl (fixed_fits l hl) none parts,
      )
    where
      up : Reached P s at.p at.q (left P s l) (across P l (cells s.rising))
      up = rw e at (reached pos (above_limit l hl e))

      parts : 0 < across P l (cells s.rising)
      parts = rw e at pos

      none : (c : ℕ) → c < P.flows → left P s l * cells s.rising c ≤ P.demand c * s.base * across P l (cells s.rising)
      none c hc = rw e at (none_meets f c hc)

      step : Step P s (shut P s (limit_next P s l) l) (left P s l) (across P l (cells s.rising)) (across P l (cells s.rising))
      step = step_shut P s l hl (fixed_fits l hl) none parts

      closing : Shutting P s (shut P s (limit_next P s l) l) (left P s l) (across P l (cells s.rising)) (across P l (cells s.rising)) l
      closing = shutting P s l hl (fixed_fits l hl) none parts

  free_further : (c : ℕ) → c < P.flows → next P s ≡ flow_next s c → 0 < (next P s).parts
      → some P.flows (meets P s (next P s)) ≡ false → Further (happen P s (next P s) (next P s).event)
  unfolding happen
  free_further c hc e pos f =
      rw e (
        record {
          p = cells s.fixed c * 1;
          q = cells s.waiting c;
          underway = underway_after P sound s _ at.p at.q _ _ 1 at.underway up step;
          counted = counted_same P (start P) s _ _ _ step at.counted;
        },
        work_free P s c hc parts above.1 none,
      )
    where
      parts : 0 < cells s.waiting c
      parts = rw e at pos

      above : (at.p * (next P s).parts ≤ (next P s).high * at.q) × (cells s.rising c ≡ 0)
      above = above_flow c parts e (at.underway.stage c hc)

      up : Reached P s at.p at.q (cells s.fixed c) (cells s.waiting c)
      up = rw e at (reached pos above.0)

      none : (g : ℕ) → g < P.flows → cells s.fixed c * cells s.rising g ≤ P.demand g * s.base * cells s.waiting c
      none g hg = rw e at (none_meets f g hg)

      step : Step P s (free P s c) (cells s.fixed c) (cells s.waiting c) 1
      step = step_free P s c hc parts above.1 none

  -- What happens next is nothing, that a limit fills, or that a minimum is reached.
  abbrev Which : Type 0
  Which =
      (next P s ≡ never)
      ⊎ ((l : ℕ) × (l < P.limits) × (next P s ≡ limit_next P s l) × (0 < across P l (cells s.rising)))
      ⊎ ((c : ℕ) × (c < P.flows) × (next P s ≡ flow_next s c) × (0 < cells s.waiting c))

  which : Which
  which = go outer.which inner.which
    where
      go : (next P s ≡ lowest P.limits (limit_next P s) never)
          ⊎ ((c : ℕ) × (c < P.flows) × (next P s ≡ flow_next s c) × (0 < cells s.waiting c))
          → (lowest P.limits (limit_next P s) never ≡ never)
          ⊎ ((l : ℕ) × (l < P.limits) × (lowest P.limits (limit_next P s) never ≡ limit_next P s l)
          × (0 < across P l (cells s.rising)))
          → Which
      go (inr w) t = inr (inr w)
      go (inl e) (inl n) = inl (e ∙ n)
      go (inl e) (inr (l, hl, q, pos)) = inr (inl (l, hl, e ∙ q, pos))

  -- What the event says of what happens next.
  pub fills_next : (l : ℕ) → (next P s).event ≡ fills l
      → (l < P.limits) × (next P s ≡ limit_next P s l) × (0 < across P l (cells s.rising))
  fills_next l e = go which
    where
      go : Which → (l < P.limits) × (next P s ≡ limit_next P s l) × (0 < across P l (cells s.rising))
      go (inl n) = absurd (let k = ap kind_of (sym e ∙ ap (λ x. x.event) n) in omega arith)
      go (inr (inl (k, hk, q, pos))) =
          let same : k ≡ l = ap number_of (sym (ap (λ x. x.event) q) ∙ e) in (rw same at hk, rw same at q, rw same at pos)
      go (inr (inr (c, hc, q, pos))) = absurd (let k = ap kind_of (sym e ∙ ap (λ x. x.event) q) in omega arith)

  pub reaches_next : (c : ℕ) → (next P s).event ≡ reaches c
      → (c < P.flows) × (next P s ≡ flow_next s c) × (0 < cells s.waiting c)
  reaches_next c e = go which
    where
      go : Which → (c < P.flows) × (next P s ≡ flow_next s c) × (0 < cells s.waiting c)
      go (inl n) = absurd (let k = ap kind_of (sym e ∙ ap (λ x. x.event) n) in omega arith)
      go (inr (inl (l, hl, q, pos))) = absurd (let k = ap kind_of (sym e ∙ ap (λ x. x.event) q) in omega arith)
      go (inr (inr (k, hk, q, pos))) =
          let same : k ≡ c = ap number_of (sym (ap (λ x. x.event) q) ∙ e) in (rw same at hk, rw same at q, rw same at pos)

  -- Stands because docs/PORT-NAMES.md names it; no function cites it today.
  pub never_nothing : 0 < (next P s).parts → (next P s).event ≡ nothing → ⊥
  never_nothing pos e = go which
    where
      go : Which → ⊥
      go (inl n) = omega (arith, pos, ap (λ x. x.parts) n)
      go (inr (inl (l, hl, q, w))) = let k = ap kind_of (sym e ∙ ap (λ x. x.event) q) in omega arith
      go (inr (inr (c, hc, q, w))) = let k = ap kind_of (sym e ∙ ap (λ x. x.event) q) in omega arith

  pub round_further : 0 < (next P s).parts → Further (round P s (next P s))
  unfolding round
  round_further pos = go (some P.flows (meets P s (next P s))) refl which
    where
      go : (b : Bool) → some P.flows (meets P s (next P s)) ≡ b → Which
          → Further (elim b [ true ↦ stop_met P s (next P s) | false ↦ happen P s (next P s) (next P s).event ])
      go b f (inl n) = absurd (omega (arith, pos, ap (λ x. x.parts) n))
      go true f (inr (inl (l, hl, e, w))) = met_further pos (above_limit l hl e) f
      go false f (inr (inl (l, hl, e, w))) = shut_further l hl e pos f
      go true f (inr (inr (c, hc, e, w))) = met_further pos (above_flow c w e (at.underway.stage c hc)).0 f
      go false f (inr (inr (c, hc, e, w))) = free_further c hc e pos f

  ended : ((c : ℕ) → c < P.flows → (cells s.rising c ≡ 0) × (cells s.waiting c ≡ 0)) → Ended P s
  ended still =
      record { fair = fair_at_end P s at.p at.q at.underway still sound.weighed; counted = at.counted }

  never_of_none : (next P s).parts ≡ 0 → Which → next P s ≡ never
  never_of_none z (inl n) = n
  never_of_none z (inr (inl (l, hl, e, w))) = absurd (omega (arith, z, ap (λ x. x.parts) e))
  never_of_none z (inr (inr (c, hc, e, w))) = absurd (omega (arith, z, ap (λ x. x.parts) e))

  pub ended_of_none : (next P s).parts ≡ 0 → Ended P s
  ended_of_none z = ended (quiet (never_of_none z which))

-- As many rounds as there is work to do are enough.
idle_of_no_work : (P : Problem) (s : State) → work P s ≤ 0
    → (c : ℕ) → c < P.flows → (cells s.rising c ≡ 0) × (cells s.waiting c ≡ 0)
unfolding work
idle_of_no_work P s h c hc =
    let own = member_le_total P.flows (λ c. true) (λ c. cells s.rising c + 2 * cells s.waiting c) c hc refl in
    omega arith

fill_ends : (P : Problem) → Sound P → (n : ℕ) (s : State) → Between P s → work P s ≤ n → Ended P (fill n P s)
unfolding fill
fill_ends P sound zero s at h = ended P sound s at (idle_of_no_work P s h)
fill_ends P sound (suc n) s at h = go (fill_ends P sound n) (eqb (next P s).parts 0) refl
  where
    go : ((t : State) → Between P t → work P t ≤ n → Ended P (fill n P t)) → (b : Bool) → eqb (next P s).parts 0 ≡ b
        → Ended P (elim b [ true ↦ s | false ↦ fill n P (round P s (next P s)) ])
    go rest true e = ended_of_none P sound s at (eqb-true _ _ e)
    go rest false e =
        let on = round_further P sound s at (pos_of_ne-zero (eqb-false _ _ e)) in
        rest (round P s (next P s)) on.0 (let l = on.1 in omega arith)

pub between_at_start : (P : Problem) → Sound P → Between P (start P)
between_at_start P sound = record { p = 0; q = 1; underway = underway_at_start P sound; counted = counted_at_start P sound }

pub filled_ends : (P : Problem) → Sound P → Ended P (filled P)
unfolding filled
filled_ends P sound = fill_ends P sound (work P (start P)) (start P) (between_at_start P sound) (le_refl _)
