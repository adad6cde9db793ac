-- The engine's tables, and the state of a filling that they stand for. What a stopped flow has is told by its stage, so that
-- only tables of the limits grow with the base.
use Rattle.std.specs.Prelude.{ℕ, ◌+◌, ◌*◌, ◌≤◌, ◌<◌, ◌≡◌, Bool, true, false, cond, ◌&&◌, List, [], Option, None, Some, ◌≢◌, eqb, leb, ltb, length, set, replicate}
use Rattle.laws.specs.Lists.{cells, list}
use Rattle.fairness.specs.Total.{on}
use Rattle.fairness.specs.Product.{sum, product}
use Rattle.fairness.specs.Problem.{Problem, Sound, across}
use Rattle.fairness.specs.Fairness.{Fair}
use Rattle.fairness.specs.Round.{Between, busy_limits, busy_weight}
use Rattle.fairness.specs.Filling.{over, State, Next, Event, nothing, fills, reaches, never, lowest}
use Rattle.planner.specs.Sizes.{most_asked, most_base, most_high, most_parts}
use Rattle.planner.specs.Limits.{limits_of, through, problem}
use Rattle.planner.specs.Tables.{Added, Begun, Bounded, Covers, Halted, Holds, Lowered, Roomy, RoomyBy, Scaled, Shared, Spares, SparesAll, Swept, Taken}
use Rattle.planner.specs.declared.filling.Filling.{Filling}
use Rattle.planner.specs.declared.flows.Flows.{Flows}
use Rattle.planner.specs.declared.level.Event.{Event as LevelEvent}
use Rattle.planner.specs.declared.level.Event.TheVariants as event
use Rattle.planner.specs.declared.level.Level.{Level}
use Rattle.planner.specs.declared.stop.Met.{Met}
use Rattle.planner.specs.declared.tables.Tables.{Tables}

-- The problem of sharing that flows and capacities make.
abbrev pub sharing : Flows → List ℕ → Problem
sharing f capacities = problem f.cards capacities f.demands.now f.minima.now f.weights.now

-- What a flow has over the base, told by its own numbers; a rising one counts 0.
abbrev pub rate_at : ℕ → ℕ → ℕ → ℕ → ℕ → List ℕ → ℕ
rate_at base demand minimum weight stage levels =
    cond (ltb stage 20) (weight * cells levels stage)
    (cond (eqb stage 21) (demand * base) (cond (eqb stage 20) 0 (minimum * base)))

-- The same of the flow of a cell.
unfoldable pub standing : Problem → ℕ → List ℕ → List ℕ → ℕ → ℕ
standing P b stages levels c = rate_at b (P.demand c) (P.minimum c) (P.weight c) (cells stages c) levels

-- The weight of a flow that rises, and of one that waits.
abbrev pub rising_at : Problem → List ℕ → ℕ → ℕ
rising_at P stages c = on (eqb (cells stages c) 20) (P.weight c)

abbrev pub waiting_at : Problem → List ℕ → ℕ → ℕ
waiting_at P stages c = on (eqb (cells stages c) 22) (P.weight c)

-- The state that base, stages and levels stand for.
unfoldable pub state_of : Problem → ℕ → List ℕ → List ℕ → State
state_of P b stages levels =
    record {
      base = b;
      fixed = list 64 (standing P b stages levels);
      rising = list 64 (rising_at P stages);
      waiting = list 64 (waiting_at P stages);
    }

-- The same of a filling, and the rates that it has come to, of one flow and of all: they are told without the capacities.
abbrev pub state_at : Problem → Filling → State
state_at P at = state_of P at.base at.tables.stages at.levels

abbrev pub rate_in : Flows → Filling → ℕ → ℕ
rate_in f at c =
    rate_at at.base (cells f.demands.now c) (cells f.minima.now c) (cells f.weights.now c) (cells at.tables.stages c) at.levels

abbrev pub rates_at : Flows → Filling → List ℕ
rates_at f at =
    list 64 (standing (problem false [] f.demands.now f.minima.now f.weights.now) at.base at.tables.stages at.levels)

-- The first stage of a flow, and the weight that it rises with at the start; and the same of the flow of a cell.
abbrev pub first_stage : ℕ → ℕ → ℕ
first_stage demand minimum = cond (ltb 0 minimum) 22 (cond (ltb 0 demand) 20 21)

abbrev pub first_weight : ℕ → ℕ → ℕ → ℕ
first_weight demand minimum weight = on (eqb (first_stage demand minimum) 20) weight

abbrev pub start_stage : List ℕ → List ℕ → ℕ → ℕ
start_stage demands minima c = first_stage (cells demands c) (cells minima c)

abbrev pub start_weight : List ℕ → List ℕ → List ℕ → ℕ → ℕ
start_weight demands minima weights c = first_weight (cells demands c) (cells minima c) (cells weights c)

-- Unless `held` is told, none of the first n flows has a minimum.
pub record Unheld (n : ℕ) (held : Bool) (minima : List ℕ) : Type 0 where
  pub each : (c : ℕ) → c < n → 0 < cells minima c → held ≡ true

-- There is room for the flow of a cell to begin, and it has begun.
abbrev pub BeginRoom : Flows → ℕ → Tables → Type 0
BeginRoom f c t =
    Covers f.cards c (cells f.minima.now c) t.left × Holds f.cards c (cells f.weights.now c) t.parts

abbrev pub BegunAt : Flows → ℕ → Tables → Tables → Type 0
BegunAt f c old new =
    Begun f.cards c (start_stage f.demands.now f.minima.now c) (cells f.minima.now c)
    (start_weight f.demands.now f.minima.now f.weights.now c) old new

-- There is room for all of them. They are set out, and whether some have to wait is told.
abbrev pub StartRoom : Flows → Tables → Type 0
StartRoom f t =
    Roomy f.cards (cells f.minima.now) t.left × Shared f.cards f.weights.now × (t.parts ≡ replicate 20 0)

pub record Started (f : Flows) (held : Bool) (old new : Tables) : Type 0 where
  pub unheld : Unheld 64 held f.minima.now
  pub stages : new.stages ≡ list 64 (start_stage f.demands.now f.minima.now)
  pub taken : Taken f.cards 64 (cells f.minima.now) old.left new.left
  pub added : Added f.cards 64 (start_weight f.demands.now f.minima.now f.weights.now) new.parts

-- A flow's stage once limit l has filled, if it passes l.
abbrev pub halted_stage : ℕ → ℕ → ℕ
halted_stage l stage = cond (eqb stage 20) l (cond (eqb stage 22) 23 stage)

-- A rising flow has its demand at or below the level `high` / `parts`; and the same of a flow by its cell. `met_in` stands because
-- docs/PORT-NAMES.md names it; no contract cites it today.
abbrev pub met_by : ℕ → ℕ → ℕ → ℕ → ℕ → ℕ → Bool
met_by base high parts demand weight stage = eqb stage 20 && leb (demand * (base * parts)) (high * weight)

abbrev pub met_in : ℕ → Level → ℕ → ℕ → List ℕ → ℕ → Bool
met_in base level demand weight stages c = met_by base level.high level.parts demand weight (cells stages c)

abbrev pub met_at : ℕ → ℕ → ℕ → List ℕ → List ℕ → List ℕ → ℕ → Bool
met_at base high parts demands weights stages c =
    met_by base high parts (cells demands c) (cells weights c) (cells stages c)

-- What a flow is given, what it frees and the stage it comes to, if all that meet their demands at the level stop.
abbrev pub met_rate : ℕ → Level → List ℕ → List ℕ → List ℕ → ℕ → ℕ
met_rate base level demands weights stages c =
    on (met_at base level.high level.parts demands weights stages c) (cells demands c * base)

abbrev pub met_weight : ℕ → Level → List ℕ → List ℕ → List ℕ → ℕ → ℕ
met_weight base level demands weights stages c =
    on (met_at base level.high level.parts demands weights stages c) (cells weights c)

abbrev pub met_stage : ℕ → Level → List ℕ → List ℕ → List ℕ → ℕ → ℕ
met_stage base level demands weights stages c =
    cond (met_at base level.high level.parts demands weights stages c) 21 (cells stages c)

-- A flow meets its demand; the tables have room for what it is given, and it has stopped.
abbrev pub meets_at : Flows → ℕ → Level → Tables → ℕ → Bool
meets_at f base level t = met_at base level.high level.parts f.demands.now f.weights.now t.stages

abbrev pub MetRoomAt : Flows → ℕ → Level → ℕ → Tables → Type 0
MetRoomAt f base level c t =
    Spares f.cards c (met_rate base level f.demands.now f.weights.now t.stages c)
    (met_weight base level f.demands.now f.weights.now t.stages c) t

abbrev pub MetAt : Flows → ℕ → Level → ℕ → Tables → Tables → Type 0
MetAt f base level c old new =
    Halted f.cards c (met_stage base level f.demands.now f.weights.now old.stages c)
    (met_rate base level f.demands.now f.weights.now old.stages c)
    (met_weight base level f.demands.now f.weights.now old.stages c) old new

-- The tables have room for all that do, and the first i cells have been walked over.
abbrev pub MetRoom : Flows → ℕ → Level → Tables → Type 0
MetRoom f base level t =
    SparesAll f.cards (met_rate base level f.demands.now f.weights.now t.stages)
    (met_weight base level f.demands.now f.weights.now t.stages) t

abbrev pub MetTo : Flows → ℕ → Level → ℕ → Tables → Tables → Type 0
MetTo f base level i old new =
    Swept f.cards i (met_stage base level f.demands.now f.weights.now old.stages)
    (met_rate base level f.demands.now f.weights.now old.stages)
    (met_weight base level f.demands.now f.weights.now old.stages) old new

-- The same if limit l fills.
abbrev pub halt_rate : ℕ → ℕ → List ℕ → List ℕ → ℕ → ℕ
halt_rate l high weights stages c = on (through l c) (on (eqb (cells stages c) 20) (cells weights c) * high)

abbrev pub halt_weight : ℕ → List ℕ → List ℕ → ℕ → ℕ
halt_weight l weights stages c = on (through l c) (on (eqb (cells stages c) 20) (cells weights c))

abbrev pub halt_stage : ℕ → List ℕ → ℕ → ℕ
halt_stage l stages c = cond (through l c) (halted_stage l (cells stages c)) (cells stages c)

abbrev pub HaltRoomAt : Flows → ℕ → ℕ → ℕ → Tables → Type 0
HaltRoomAt f l high c t =
    Spares f.cards c (halt_rate l high f.weights.now t.stages c) (halt_weight l f.weights.now t.stages c) t

abbrev pub HaltedAt : Flows → ℕ → ℕ → ℕ → Tables → Tables → Type 0
HaltedAt f l high c old new =
    Halted f.cards c (halt_stage l old.stages c) (halt_rate l high f.weights.now old.stages c)
    (halt_weight l f.weights.now old.stages c) old new

abbrev pub HaltRoom : Flows → ℕ → ℕ → Tables → Type 0
HaltRoom f l high t =
    SparesAll f.cards (halt_rate l high f.weights.now t.stages) (halt_weight l f.weights.now t.stages) t

abbrev pub HaltTo : Flows → ℕ → ℕ → ℕ → Tables → Tables → Type 0
HaltTo f l high i old new =
    Swept f.cards i (halt_stage l old.stages) (halt_rate l high f.weights.now old.stages)
    (halt_weight l f.weights.now old.stages) old new

-- Of the first n flows, none that rises asks for less; and the number itself is no larger than a demand can be.
pub record Light (n least : ℕ) (demands stages : List ℕ) : Type 0 where
  pub small : least ≤ most_asked
  pub each : (c : ℕ) → c < n → cells stages c ≡ 20 → least ≤ cells demands c

-- What is left of each limit and what rises through it are kept, and not worked out anew.
pub record Kept (P : Problem) (s : State) (left parts : List ℕ) : Type 0 where
  pub left_is : (l : ℕ) → l < P.limits → cells left l + across P l (cells s.fixed) ≡ P.capacity l * s.base
  pub parts_is : (l : ℕ) → l < P.limits → cells parts l ≡ across P l (cells s.rising)

-- The stage of a flow that neither rises nor waits.
abbrev pub Resting : ℕ → Type 0
Resting g = (g ≢ 20) × (g ≢ 22)

-- A limit at which some flow has stopped is done with: all that pass it are at rest.
pub record Done (P : Problem) (stages : List ℕ) : Type 0 where
  pub listed : (c : ℕ) → c < 64 → cells stages c < 20 → cells stages c < P.limits
  pub idle : (c : ℕ) → c < 64 → cells stages c < 20 → (g : ℕ) → g < 64 → P.through (cells stages c) g ≡ true
      → Resting (cells stages g)

-- The event of a level; the level with it; and the same, but that over 0 parts nothing happens.
abbrev pub event_of : LevelEvent → Event
event_of (event.Fills l) = fills l
event_of (event.Reaches c) = reaches c

abbrev pub level_of : Level → Next
level_of e = record { high = e.high; parts = e.parts; event = event_of e.event }

abbrev pub next_of : Level → Next
next_of e = record { high = e.high; parts = e.parts; event = cond (eqb e.parts 0) nothing (event_of e.event) }

-- What a search answers: nothing if nothing happens next, and else the level at which something does.
abbrev pub Found : Next → Option Level → Type 0
Found n None = n.parts ≡ 0
Found n (Some e) = (next_of e ≡ n) × (0 < e.parts)

-- When a limit fills, and when a waiting flow's minimum is reached.
abbrev pub limit_event : List ℕ → List ℕ → ℕ → Next
limit_event left parts l = record { high = cells left l; parts = cells parts l; event = fills l }

abbrev pub flow_event : ℕ → List ℕ → List ℕ → List ℕ → ℕ → Next
flow_event base minima weights stages c =
    record { high = cells minima c * base; parts = on (eqb (cells stages c) 22) (cells weights c); event = reaches c }

-- What happens next; flows are looked at only where some of them may wait. And the same of a filling.
abbrev pub next_among : Bool → Bool → ℕ → List ℕ → List ℕ → List ℕ → List ℕ → List ℕ → Next
next_among cards held base minima weights stages left parts =
    let first = lowest (limits_of cards) (limit_event left parts) never in
    cond held (lowest 64 (flow_event base minima weights stages) first) first

abbrev pub next_event : Flows → Filling → Next
next_event f at =
    next_among f.cards at.held at.base f.minima.now f.weights.now at.tables.stages at.tables.left at.tables.parts

-- What is left of the limits, and what rises through them, leaves room for products in 64 bits.
pub record LimitsSmall (cards : Bool) (t : Tables) : Type 0 where
  pub left : Bounded (limits_of cards) most_high t.left
  pub parts : Bounded (limits_of cards) most_parts t.parts

-- What the engine asks of the problem that it is handed, so that no number passes 64 bits: capacities and demands as large as
-- a request's, weights that a limit can take, and divisors whose product is a base.
pub record Modest (P : Problem) (heaviest : ℕ) : Type 0 where
  pub sound : Sound P
  pub capacities : (l : ℕ) → l < P.limits → P.capacity l ≤ most_asked
  pub demands : (c : ℕ) → c < 64 → P.demand c ≤ most_asked
  pub weights : (c : ℕ) → c < 64 → P.weight c ≤ heaviest
  pub heavy : heaviest ≤ most_parts
  pub shares : (l : ℕ) → l < P.limits → across P l P.weight ≤ most_parts
  pub divisors : (ks : List ℕ) → length ks ≤ busy_limits P → sum ks ≤ busy_weight P → product ks ≤ most_base

-- The least demand seen so far is no greater than before, and no greater than that of a flow which goes on rising.
pub record Lightest (new old : Met) (demand stage : ℕ) : Type 0 where
  pub before : new.least ≤ old.least
  pub here : stage ≡ 20 → new.least ≤ demand

-- What is seen to before limit l fills at a level.
pub record ShutReady (f : Flows) (l : ℕ) (level : Level) (at : Filling) : Type 0 where
  pub listed : l < limits_of f.cards
  pub levels : Bounded (limits_of f.cards) most_high at.levels
  pub left : Bounded (limits_of f.cards) most_high at.tables.left
  pub small : at.base * level.parts ≤ most_base
  pub room : RoomyBy f.cards level.parts (halt_rate l level.high f.weights.now at.tables.stages) at.tables.left
  pub room_parts : Roomy f.cards (halt_weight l f.weights.now at.tables.stages) at.tables.parts

-- The filling after limit l has filled at a level: the base, the levels and what is left have grown by the level's parts, and the
-- flows of the limit have stopped.
pub record Shut (f : Flows) (l : ℕ) (e : Level) (old new : Filling) : Type 0 where
  pub base : new.base ≡ old.base * e.parts
  pub kept : (new.held ≡ old.held) × (new.least ≡ old.least)
  pub long : length new.levels ≡ 20
  pub levels_grown : (i : ℕ) → i < limits_of f.cards → i ≢ l → cells new.levels i ≡ cells old.levels i * e.parts
  pub levels_kept : (i : ℕ) → limits_of f.cards ≤ i → cells new.levels i ≡ cells old.levels i
  pub level : cells new.levels l ≡ e.high
  pub grown : List ℕ
  pub left_grown : Scaled (limits_of f.cards) e.parts old.tables.left grown
  pub swept : HaltTo f l e.high 64 (record old.tables { left = grown }) new.tables

-- The filling after the flow of cell c, which waited at its minimum, has begun to rise.
pub record Freed (f : Flows) (c : ℕ) (old new : Filling) : Type 0 where
  pub marked : new.tables.stages ≡ set old.tables.stages c 20
  pub given : Lowered f.cards c (cells f.minima.now c * old.base) new.tables.left old.tables.left
  pub rises : Lowered f.cards c (cells f.weights.now c) new.tables.parts old.tables.parts
  pub kept : (new.held ≡ old.held) × (new.base ≡ old.base) × (new.levels ≡ old.levels)
  pub least : new.least ≡ 0

-- What the engine sees to before either of the two happens, and what has happened.
pub record FillsReady (f : Flows) (level : Level) (at : Filling) : Type 0 where
  pub ready : (l : ℕ) → level.event ≡ event.Fills l → ShutReady f l level at

pub record ReachesReady (f : Flows) (level : Level) (at : Filling) : Type 0 where
  pub ready : (c : ℕ) → level.event ≡ event.Reaches c
      → (c < 64) × Holds f.cards c (cells f.minima.now c * at.base) at.tables.left
      × Holds f.cards c (cells f.weights.now c) at.tables.parts

pub record Happened (f : Flows) (level : Level) (old new : Filling) : Type 0 where
  pub fills : (l : ℕ) → level.event ≡ event.Fills l → Shut f l level old new
  pub reaches : (c : ℕ) → level.event ≡ event.Reaches c → Freed f c old new

-- What holds between two turns of the engine.
pub record Engaged (f : Flows) (capacities : List ℕ) (at : Filling) : Type 0 where
  pub between : Between (sharing f capacities) (state_at (sharing f capacities) at)
  pub kept : Kept (sharing f capacities) (state_at (sharing f capacities) at) at.tables.left at.tables.parts
  pub done : Done (sharing f capacities) at.tables.stages
  pub light : Light 64 at.least f.demands.now at.tables.stages
  pub unheld : at.held ≡ false → (c : ℕ) → c < 64 → cells at.tables.stages c ≢ 22
  pub high : (i : ℕ) → i < 20 → cells at.levels i ≤ most_asked * at.base
  pub long : (length at.tables.stages ≡ 64) × (length at.levels ≡ 20) × (length at.tables.left ≡ 20) × (length at.tables.parts ≡ 20)

-- What the turns need to begin with. They do not hold the capacities, so it is enough that there are some.
pub record Ready (f : Flows) (at : Filling) : Type 0 where
  pub capacities : List ℕ
  pub modest : Modest (sharing f capacities) f.heaviest
  pub engaged : Engaged f capacities at

-- What they end with, whatever the capacities were.
pub record Finished (f : Flows) (old new : Filling) : Type 0 where
  pub each : (capacities : List ℕ) → Modest (sharing f capacities) f.heaviest → Engaged f capacities old
      → (new.base ≤ most_base) × Bounded 20 most_high new.levels
      × Fair (sharing f capacities) (over new.base (rates_at f new))
