-- The engine between two turns, and what a turn does to it: it is always a round of the filling, and there is less to be done.
use Prim.Native.Nat.{ℕ, ◌*◌, ◌≤◌, ◌<◌}
use mathlib.Core.Path.{◌≡◌, refl, sym, ap, ◌∙◌, subst}
use mathlib.Core.Bool.{Bool, true, false, cond}
use mathlib.Core.List.{List}
use mathlib.Core.Logic.{◌⊎◌, inl, inr, ◌≢◌}
use native.Mathlib.Omega.{arith}
use native.Mathlib.Nat.{mul-le-mul_right, le_trans, mul-le-mul}
use borrow.Author.Tests.{eq-eqb, ne_eqb}
use lib.Dec.{eqb}
use lib.ListN.{length, length-set}
use Rattle.laws.specs.Lists.{cells, list}
use Rattle.laws.proofs.Lists.{cells-list, list_same}
use Rattle.laws.proofs.Search.{le_or_lt, eq_or_not, true_or_false}
use Rattle.fairness.specs.Total.{on}
use Rattle.fairness.specs.Problem.{Problem, across}
use Rattle.fairness.specs.Filling.{State, Next, lowest, limit_next, flow_next, next, meets, some, stop_met, shut, free, happen, round, work}
use Rattle.fairness.specs.Round.{Between}
use Rattle.fairness.proofs.Sums.{total_same, total-zero}
use Rattle.fairness.proofs.Some.{none_of_some, some_alike}
use Rattle.fairness.proofs.Lowest.{lowest_none}
use Rattle.fairness.proofs.Filling.{fixed_fits, fills_next, reaches_next, round_further}
use Rattle.planner.specs.Sizes.{most_asked}
use Rattle.planner.specs.Limits.{limits_of, through, problem}
use Rattle.planner.specs.Tables.{Roomy, RoomyBy, Taken, Holds}
use Rattle.planner.specs.Engine.{sharing, state_of, state_at, met_at, met_rate, met_weight, halt_rate, halted_stage}
use Rattle.planner.specs.Engine.{Engaged, Kept, Light, Modest, MetRoom, MetTo, ShutReady, Shut, Freed, FillsReady, ReachesReady, Happened}
use Rattle.planner.specs.Engine.{next_of, event_of, next_among, next_event, rising_at, waiting_at}
use Rattle.planner.specs.declared.filling.Filling.{Filling}
use Rattle.planner.specs.declared.flows.Flows.{Flows}
use Rattle.planner.specs.declared.level.Event.{Event}
use Rattle.planner.specs.declared.level.Event.TheVariants as event
use Rattle.planner.specs.declared.level.Level.{Level}
use Rattle.planner.proofs.Walks.{marked_all}
use Rattle.planner.proofs.Stages.{met_stages, shut_stages, done_met, done_shut, done_free, limit_small}
use Rattle.planner.proofs.State.{met_same, state_met, state_met_none, waiting_cell, rising_cell}
use Rattle.planner.proofs.Events.{state_shut, state_free}
use Rattle.planner.proofs.Kept.{kept_met, met_fits, kept_shut, shut_fits, kept_free}
use Rattle.planner.proofs.NextLevel.{limits_same, flows_same}
use Rattle.planner.proofs.LastTurn.{limits_now, levels_listed}
use Rattle.planner.proofs.Bounds.{base_small, met_covered, shut_covered, weight_small, minimum_small, state_base_small}

taken_alike : {cards : Bool} {x y : ℕ → ℕ} {old new : List ℕ} → ((c : ℕ) → c < 64 → x c ≡ y c) → Taken cards 64 x old new
    → Taken cards 64 y old new
taken_alike {cards} {x} {y} same taken =
    record { long = taken.long; each = λ l h. omega (arith, taken.each l h, total_same 64 (through l) x y same) }

-- What a round does, by whether some flow meets its demand.
round_met : (P : Problem) (s : State) (e : Next) → some P.flows (meets P s e) ≡ true → round P s e ≡ stop_met P s e
unfolding round
round_met P s e t = rw (t, round)

round_unmet : (P : Problem) (s : State) (e : Next) → some P.flows (meets P s e) ≡ false → round P s e ≡ happen P s e e.event
unfolding round
round_unmet P s e f = rw (f, round)

base_met : (P : Problem) (b : ℕ) (stages levels : List ℕ) (e : Next) → (stop_met P (state_of P b stages levels) e).base ≡ b
unfolding stop_met state_of
base_met P b stages levels e = refl

base_shut : (P : Problem) (b : ℕ) (stages levels : List ℕ) (e : Next) (l : ℕ) → (shut P (state_of P b stages levels) e l).base ≡ b * e.parts
unfolding shut state_of
base_shut P b stages levels e l = refl

-- A flow that does not wait has not begun to.
waited_before : (t : Bool) (g : ℕ) → cond t 21 g ≡ 22 → g ≡ 22
waited_before true g q = absurd (omega arith)
waited_before false g q = q

base_of : (P : Problem) (b : ℕ) (stages levels : List ℕ) → (state_of P b stages levels).base ≡ b
unfolding state_of
base_of P b stages levels = refl

-- A limit that fills makes no flow rise or wait.
before_halt : (l : ℕ) → l < 20 → (t : Bool) (old new : ℕ) → 19 < new → new ≢ 23 → cond t (halted_stage l old) old ≡ new → old ≡ new
before_halt l low false old new above other q = q
before_halt l low true old new above other q = go (eq_or_not old 20) (eq_or_not old 22)
  where
    go : (old ≡ 20) ⊎ (old ≡ 20 → ⊥) → (old ≡ 22) ⊎ (old ≡ 22 → ⊥) → old ≡ new
    go (inl a) t = let h : l ≡ new = rw (eq-eqb old 20 a) at q in absurd (omega arith)
    go (inr a) (inl d) =
        let h : 23 ≡ new = rw (ne_eqb old 20 a, eq-eqb old 22 d) at q in absurd (other (sym h))
    go (inr a) (inr d) = rw (ne_eqb old 20 a, ne_eqb old 22 d) at q

waits_of : (g w : ℕ) → 0 < on (eqb g 22) w → g ≡ 22
waits_of g w h = go (eq_or_not g 22)
  where
    go : (g ≡ 22) ⊎ (g ≡ 22 → ⊥) → g ≡ 22
    go (inl e) = e
    go (inr n) = let none : 0 < 0 = rw (ne_eqb g 22 n) at h in absurd (omega arith)

-- The search finds what happens next, whatever the tables are: what is left and what rises has to be kept, and no flow waits
-- unless that is told.
module _ (cards held : Bool) (capacities demands minima weights : List ℕ) (base : ℕ) (stages levels left parts : List ℕ) where
  abbrev any : Problem
  any = problem cards capacities demands minima weights

  abbrev there : State
  there = state_of any base stages levels

  pub next_is : Kept any there left parts → (held ≡ false → (c : ℕ) → c < 64 → cells stages c ≢ 22)
      → next_among cards held base minima weights stages left parts ≡ next any there
  unfolding next
  next_is kept unheld = go held refl
    where
      none : (c : ℕ) → cells stages c ≢ 22 → waiting_at any stages c ≡ 0
      none c n = rw (ne_eqb (cells stages c) 22 n)

      go : (h : Bool) → held ≡ h → next_among cards h base minima weights stages left parts ≡ next any there
      go true e =
          flows_same any base stages levels _
          ∙ ap (lowest 64 (flow_next there)) (limits_same any there left parts kept)
      go false e =
          limits_same any there left parts kept
          ∙ sym (lowest_none 64 (flow_next there) _ (λ c hc. waiting_cell any base stages levels c hc ∙ none c (unheld e c hc)))

-- So it does between two turns.
module _ {f : Flows} {capacities : List ℕ} {at : Filling} (now : Engaged f capacities at) where
  abbrev own : Problem
  own = sharing f capacities

  abbrev state : State
  state = state_at own at

  pub next_here : next_event f at ≡ next own state
  next_here =
      next_is f.cards at.held capacities f.demands.now f.minima.now f.weights.now at.base at.tables.stages at.levels at.tables.left
      at.tables.parts now.kept now.unheld

-- A turn: what holds before it, and the level that the search found.
pub record Turn (f : Flows) (capacities : List ℕ) (at : Filling) (e : Level) : Type 0 where
  pub modest : Modest (sharing f capacities) f.heaviest
  pub now : Engaged f capacities at
  pub is : next_of e ≡ next (sharing f capacities) (state_at (sharing f capacities) at)
  pub pos : 0 < e.parts

-- What holds after a turn that has got further than a filling.
abbrev pub Onward : Flows → List ℕ → Filling → Filling → Type 0
Onward f capacities old new =
    Engaged f capacities new
    × (work (sharing f capacities) (state_at (sharing f capacities) new) < work (sharing f capacities) (state_at (sharing f capacities) old))

module _ {f : Flows} {capacities : List ℕ} {at : Filling} {e : Level} (turn : Turn f capacities at e) where
  abbrev cards : Bool
  cards = f.cards

  abbrev demands : List ℕ
  demands = f.demands.now

  abbrev minima : List ℕ
  minima = f.minima.now

  abbrev weights : List ℕ
  weights = f.weights.now

  abbrev stages : List ℕ
  stages = at.tables.stages

  abbrev levels : List ℕ
  levels = at.levels

  abbrev left : List ℕ
  left = at.tables.left

  abbrev parts : List ℕ
  parts = at.tables.parts

  abbrev P : Problem
  P = sharing f capacities

  abbrev b : ℕ
  b = at.base

  abbrev s : State
  s = state_of P b stages levels

  abbrev modest : Modest P f.heaviest
  modest = turn.modest

  abbrev now : Engaged f capacities at
  now = turn.now

  abbrev is : next_of e ≡ next P s
  is = turn.is

  abbrev pos : 0 < e.parts
  pos = turn.pos

  further : Between P (round P s (next_of e)) × (work P (round P s (next_of e)) < work P s)
  further =
      subst (λ (x : Next). Between P (round P s x) × (work P (round P s x) < work P s)) (sym is)
      (round_further P modest.sound s now.between (subst (λ (x : Next). 0 < x.parts) is pos))

  same : (c : ℕ) → c < 64 → met_at b e.high e.parts demands weights stages c ≡ meets P s (next_of e) c
  same c hc = met_same cards capacities demands minima weights b stages levels (next_of e) modest.sound.weighed c hc

  pub some_same : some 64 (met_at b e.high e.parts demands weights stages) ≡ some 64 (meets P s (next_of e))
  some_same = some_alike 64 _ _ same

  same_rate : (c : ℕ) → c < 64 → met_rate b e demands weights stages c ≡ on (meets P s (next_of e) c) (P.demand c * b)
  same_rate c hc = ap (λ (t : Bool). on t (cells demands c * b)) (same c hc)

  same_weight : (c : ℕ) → c < 64 → met_weight b e demands weights stages c ≡ on (meets P s (next_of e) c) (P.weight c)
  same_weight c hc = ap (λ (t : Bool). on t (cells weights c)) (same c hc)

  -- Flows that meet their demands: there is room for them.
  after_met : some 64 (meets P s (next_of e)) ≡ true → Between P (stop_met P s (next_of e))
  after_met t = subst (λ (x : State). Between P x) (round_met P s (next_of e) t) further.0

  room_met_left : Roomy cards (met_rate b e demands weights stages) left
  room_met_left =
      record {
        long = now.long.2;
        each = λ l h. rw (total_same 64 (through l) _ _ same_rate) (go l h (true_or_false (some 64 (meets P s (next_of e)))));
      }
    where
      go : (l : ℕ) → l < limits_of cards → (some 64 (meets P s (next_of e)) ≡ true) ⊎ (some 64 (meets P s (next_of e)) ≡ false)
          → across P l (λ c. on (meets P s (next_of e) c) (P.demand c * b)) ≤ cells left l
      go l h (inl t) =
          met_fits cards capacities demands minima weights b stages levels (next_of e) now.kept
          (λ i hi. rw (base_met P b stages levels (next_of e)) at (fixed_fits P modest.sound _ (after_met t) i hi)) l h
      go l h (inr f) =
          omega (arith, total-zero 64 (through l) _ (λ c hc m. ap (λ (t : Bool). on t (P.demand c * b)) (none_of_some 64 _ f c hc)))

  pub room_met_parts : Roomy cards (met_weight b e demands weights stages) parts
  room_met_parts =
      record {
        long = now.long.3;
        each = λ l h.
            rw (total_same 64 (through l) _ _ same_weight)
            (met_covered cards capacities demands minima weights b stages levels (next_of e) now.kept l h);
      }

  pub room_met : MetRoom f b e at.tables
  room_met = (room_met_left, room_met_parts)

  -- After the walk that stops them.
  module _ (new : Filling) (lighter : Light 64 new.least demands new.tables.stages) (swept : MetTo f b e 64 at.tables new.tables)
      (kept : (new.held ≡ at.held) × (new.base ≡ at.base) × (new.levels ≡ at.levels)) where
    abbrev stages' : List ℕ
    stages' = new.tables.stages

    stages_met : stages' ≡ met_stages (meets P s (next_of e)) stages
    stages_met =
        marked_all _ stages stages' swept.marked
        ∙ list_same 64 _ _ (λ c hc. ap (λ (t : Bool). cond t 21 (cells stages c)) (same c hc))

    kept_after : Kept P (stop_met P s (next_of e)) new.tables.left new.tables.parts
    kept_after =
        kept_met cards capacities demands minima weights b stages levels (next_of e) now.kept
        (taken_alike same_rate swept.taken) (taken_alike same_weight swept.freed)

    state_after : state_of P b stages' levels ≡ stop_met P s (next_of e)
    state_after = state_met cards capacities demands minima weights b stages levels (next_of e) stages_met

    engaged_after : Between P (state_of P b stages' levels)
        → Engaged f capacities new
    engaged_after between =
        record {
          between = rw (kept.1, kept.2) between;
          kept = rw (kept.1, kept.2, state_after) kept_after;
          done = rw stages_met (done_met P stages now.done (meets P s (next_of e)));
          light = lighter;
          unheld = λ n c hc q.
              now.unheld (sym kept.0 ∙ n) c hc
              (waited_before (met_at b e.high e.parts demands weights stages c) (cells stages c)
              (sym (swept.marked.before c hc) ∙ q));
          high = rw (kept.1, kept.2) now.high;
          long = (swept.marked.long, ap length kept.2 ∙ now.long.1, swept.taken.long, swept.freed.long);
        }

    -- Some flow has stopped.
    pub met_turn : some 64 (met_at b e.high e.parts demands weights stages) ≡ true → Onward f capacities at new
    met_turn t =
        let yes = sym some_same ∙ t in (
          engaged_after (rw state_after (after_met yes)),
          rw (kept.1, kept.2, state_after) (subst (λ (x : State). work P x < work P s) (round_met P s (next_of e) yes) further.1),
        )

    -- None has: the level stands, and what happens there is yet to come.
    pub unmet_turn : some 64 (met_at b e.high e.parts demands weights stages) ≡ false → Engaged f capacities new × (stages' ≡ stages)
    unmet_turn unmet =
        let same = stages_met ∙ state_met_none cards capacities demands minima weights b stages levels (next_of e) (sym some_same ∙ unmet) now.long.0 in
        (engaged_after (rw same now.between), same)

    -- The turn goes on from there, and still no flow meets its demand.
    pub unmet_on : some 64 (met_at b e.high e.parts demands weights stages) ≡ false
        → Turn f capacities new e × (some 64 (meets P (state_at P new) (next_of e)) ≡ false) × (stages' ≡ stages) × (state_at P new ≡ s)
    unmet_on unmet =
        let still = (unmet_turn unmet).1 in (
          record {
            modest = modest;
            now = (unmet_turn unmet).0;
            is = rw (kept.1, kept.2) (subst (λ (st : List ℕ). next_of e ≡ next P (state_of P b st levels)) (sym still) is);
            pos = pos;
          },
          rw (kept.1, kept.2) (subst (λ (st : List ℕ). some 64 (meets P (state_of P b st levels) (next_of e)) ≡ false) (sym still)
              (sym some_same ∙ unmet)),
          still,
          rw (kept.1, kept.2) (ap (λ (st : List ℕ). state_of P b st levels) still),
        )

  -- What happens at the level, if no flow meets its demand there.
  module _ (none : some 64 (meets P s (next_of e)) ≡ false) where
    abbrev Further : State → Type 0
    Further t = Between P t × (work P t < work P s)

    -- there are parts, so that the event takes place
    event_is : (next_of e).event ≡ event_of e.event
    event_is = rw (ne_eqb e.parts 0 (λ z. omega (arith, pos)))

    further_by : (x : Event) → e.event ≡ x → (t : State) → happen P s (next_of e) (event_of x) ≡ t → Further t
    further_by x at_x t q =
        subst Further
        (round_unmet P s (next_of e) none ∙ ap (happen P s (next_of e)) (event_is ∙ ap event_of at_x) ∙ q) further

    -- what the filling says of the event that takes place
    next_event_is : (x : Event) → e.event ≡ x → (next P s).event ≡ event_of x
    next_event_is x at_x = sym (ap (λ (n : Next). n.event) is) ∙ event_is ∙ ap event_of at_x

    -- A limit fills.
    module _ (limit : ℕ) (at_limit : e.event ≡ event.Fills limit) where
      found : (limit < P.limits) × (next P s ≡ limit_next P s limit) × (0 < across P limit (cells s.rising))
      found = fills_next P modest.sound s now.between limit (next_event_is (event.Fills limit) at_limit)

      small : limit < 20
      small = limit_small cards limit found.0

      shut_further : Further (shut P s (next_of e) limit)
      unfolding happen
      shut_further = further_by (event.Fills limit) at_limit _ refl

      rises : 0 < across P limit (rising_at P stages)
      rises = rw (total_same 64 (through limit) _ _ (λ c hc. rising_cell P b stages levels c hc)) at found.2

      abbrev left_by : List ℕ
      left_by = list 20 (λ i. cells left i * e.parts)

      scaled : (i : ℕ) → i < limits_of cards → cells left_by i ≡ cells left i * e.parts
      scaled i h = cells-list 20 _ i (limit_small cards i h)

      pub room_shut : RoomyBy cards e.parts (halt_rate limit e.high weights stages) left
      room_shut =
          record {
            long = now.long.2;
            each = λ l h.
                rw (scaled l h) at
                (shut_fits cards capacities demands minima weights b stages levels (next_of e) limit left_by now.kept scaled
                (λ i hi. rw (base_shut P b stages levels (next_of e) limit) at (fixed_fits P modest.sound _ shut_further.0 i hi)) l h);
          }

      pub shut_ready : ShutReady f limit e at
      shut_ready =
          record {
            listed = found.0;
            levels = levels_listed modest now;
            left = (limits_now modest now).left;
            small = rw (base_shut P b stages levels (next_of e) limit) at (state_base_small P _ modest shut_further.0);
            room = room_shut;
            room_parts =
                record {
                  long = now.long.3;
                  each = λ l h. shut_covered cards capacities demands minima weights b stages levels limit now.kept l h;
                };
          }

      high_level : e.high ≤ most_asked * b
      high_level =
          omega (
            arith,
            ap (λ (x : Next). x.high) (is ∙ found.1),
            base_of P b stages levels,
            mul-le-mul_right b (modest.capacities limit found.0),
            ap (λ (x : ℕ). P.capacity limit * x) (base_of P b stages levels),
          )

      module _ (new : Filling) (done : Shut f limit e at new) where
        stages_shut : new.tables.stages ≡ shut_stages (through limit) limit stages
        stages_shut = marked_all _ stages new.tables.stages done.swept.marked

        state_is_shut : state_at P new ≡ shut P s (next_of e) limit
        state_is_shut =
            rw done.base
            (state_shut cards capacities demands minima weights b stages levels new.levels (next_of e) limit now.done found.0 rises
            done.levels_grown done.level stages_shut)

        stage_before : (c : ℕ) → c < 64 → (g : ℕ) → 19 < g → g ≢ 23 → cells new.tables.stages c ≡ g → cells stages c ≡ g
        stage_before c hc g above other q =
            before_halt limit small (through limit c) (cells stages c) g above other (sym (done.swept.marked.before c hc) ∙ q)

        higher : (i : ℕ) → i < 20 → cells new.levels i ≤ most_asked * (b * e.parts)
        higher i hi = go (eq_or_not i limit) (le_or_lt (limits_of cards) i)
          where
            grown : most_asked * b ≤ most_asked * (b * e.parts)
            grown = omega (arith, mul-le-mul_right b pos)

            go : (i ≡ limit) ⊎ (i ≡ limit → ⊥) → (limits_of cards ≤ i) ⊎ (i < limits_of cards) → cells new.levels i ≤ most_asked * (b * e.parts)
            go (inl q) t = rw (q, done.level) (le_trans high_level grown)
            go (inr n) (inl past) = rw (done.levels_kept i past) (le_trans (now.high i hi) grown)
            go (inr n) (inr l) = rw (done.levels_grown i l n) (omega (arith, mul-le-mul_right e.parts (now.high i hi)))

        pub shut_turn : Onward f capacities at new
        shut_turn = (
          record {
            between = rw state_is_shut shut_further.0;
            kept =
                rw state_is_shut
                (kept_shut cards capacities demands minima weights b stages levels (next_of e) limit done.grown now.kept
                done.left_grown.each done.swept.taken done.swept.freed);
            done = rw stages_shut (done_shut P stages now.done limit found.0 small);
            light =
                record {
                  small = rw (done.kept.1) now.light.small;
                  each = λ c hc q.
                      rw (done.kept.1) (now.light.each c hc (stage_before c hc 20 (omega arith) (λ n. omega arith) q));
                };
            unheld = λ n c hc q.
                now.unheld (sym done.kept.0 ∙ n) c hc (stage_before c hc 22 (omega arith) (λ n. omega arith) q);
            high = rw done.base higher;
            long = (done.swept.marked.long, done.long, done.swept.taken.long, done.swept.freed.long);
          },
          rw state_is_shut shut_further.1,
        )

    -- A waiting flow's minimum is reached.
    module _ (flow : ℕ) (at_flow : e.event ≡ event.Reaches flow) where
      reached : (flow < 64) × (next P s ≡ flow_next s flow) × (0 < cells s.waiting flow)
      reached = reaches_next P modest.sound s now.between flow (next_event_is (event.Reaches flow) at_flow)

      waits : cells stages flow ≡ 22
      waits = waits_of (cells stages flow) (cells weights flow) (rw (waiting_cell P b stages levels flow reached.0) at reached.2)

      free_further : Further (free P s flow)
      unfolding happen
      free_further = further_by (event.Reaches flow) at_flow _ refl

      pub holds_left : Holds cards flow (cells minima flow * b) left
      holds_left =
          record {
            long = now.long.2;
            each = λ l h q.
                omega (
                  arith,
                  (limits_now modest now).left.each l h,
                  mul-le-mul
                      (minimum_small cards capacities demands minima weights modest flow reached.0)
                      (base_small cards capacities demands minima weights b stages levels modest now.between),
                );
          }

      pub holds_parts : Holds cards flow (cells weights flow) parts
      holds_parts =
          record {
            long = now.long.3;
            each = λ l h q.
                omega (
                  arith,
                  (limits_now modest now).parts.each l h,
                  weight_small cards capacities demands minima weights modest flow reached.0,
                );
          }

      pub free_ready : (flow < 64) × Holds cards flow (cells minima flow * b) left × Holds cards flow (cells weights flow) parts
      free_ready = (reached.0, holds_left, holds_parts)

      module _ (new : Filling) (done : Freed f flow at new) where
        state_is_free : state_at P new ≡ free P s flow
        state_is_free =
            rw (done.kept.1, done.kept.2, done.marked)
            (state_free cards capacities demands minima weights b stages levels flow reached.0 waits now.long.0)

        pub free_turn : Onward f capacities at new
        free_turn = (
          record {
            between = rw state_is_free free_further.0;
            kept =
                rw state_is_free
                (kept_free cards capacities demands minima weights b stages levels flow reached.0 waits now.kept
                (λ i h. sym (done.given.each i h)) (λ i h. sym (done.rises.each i h)));
            done = rw done.marked (done_free P stages now.done flow reached.0 waits now.long.0);
            light =
                record { small = omega (arith, done.least); each = λ c hc q. omega (arith, done.least) };
            unheld = λ n. absurd (now.unheld (sym done.kept.0 ∙ n) flow reached.0 waits);
            high = rw (done.kept.1, done.kept.2) now.high;
            long = (
              ap length done.marked ∙ length-set stages flow 20 ∙ now.long.0,
              ap length done.kept.2 ∙ now.long.1,
              done.given.long.0,
              done.rises.long.0,
            );
          },
          rw state_is_free free_further.1,
        )

    -- Either can happen, and has.
    pub happen_ready : FillsReady f e at × ReachesReady f e at
    happen_ready = (record { ready = shut_ready }, record { ready = free_ready })

    pub happened_turn : (new : Filling) → Happened f e at new → Onward f capacities at new
    happened_turn new done = go e.event refl
      where
        go : (x : Event) → e.event ≡ x → Onward f capacities at new
        go (event.Fills limit) q = shut_turn limit q new (done.fills limit q)
        go (event.Reaches flow) q = free_turn flow q new (done.reaches flow q)
