-- Filling: all flows rise together, a flow stops at its demand, and a limit that fills stops all that rise through it.
-- It is written to be run: a state holds lists, and every round makes new ones.
use Rattle.std.specs.Prelude.{ℕ, zero, suc, ◌+◌, ◌-◌, ◌*◌, Bool, true, false, not, cond, ◌&&◌, ◌||◌, List, eqb, leb, ltb}
use Rattle.laws.specs.Lists.{cells, list}
use Rattle.fairness.specs.Total.{on, total}
use Rattle.fairness.specs.Problem.{Problem, across}
use Rattle.fairness.specs.Fairness.{Allocation}

-- How far the filling is: the base; the numerator of each flow that is not rising, and 0 for one that is; the weight
-- of each rising flow, and 0 for the others; the weight of each flow that waits for the level to reach its minimum.
pub record State : Type 0 where
  pub base : ℕ
  pub fixed : List ℕ
  pub rising : List ℕ
  pub waiting : List ℕ

-- At first every flow has its minimum; those that have none rise, and the others wait. A flow without a demand stands.
unfoldable pub start : Problem → State
start P =
    record {
      base = 1;
      fixed = list P.flows P.minimum;
      rising = list P.flows (λ c. on (ltb 0 (P.demand c) && eqb (P.minimum c) 0) (P.weight c));
      waiting = list P.flows (λ c. on (ltb 0 (P.minimum c)) (P.weight c));
    }

-- What happens at a level: nothing, a limit fills, or a waiting flow's minimum is reached.
pub data Event : Type 0 where
  nothing : Event
  fills : ℕ → Event
  reaches : ℕ → Event

-- An event and its level, the numerator `high` over `parts` parts; 1 over 0 is higher than every level.
pub record Next : Type 0 where
  pub high : ℕ
  pub parts : ℕ
  pub event : Event

abbrev pub never : Next
never = record { high = 1; parts = 0; event = nothing }

-- What is left of limit l for its rising flows.
abbrev pub left : Problem → State → ℕ → ℕ
left P s l = P.capacity l * s.base - across P l (cells s.fixed)

-- Limit l fills when what is left is shared among the weights that rise through it.
abbrev pub limit_next : Problem → State → ℕ → Next
limit_next P s l = record { high = left P s l; parts = across P l (cells s.rising); event = fills l }

-- Flow c's minimum is reached when the level, times its weight, is its minimum.
abbrev pub flow_next : State → ℕ → Next
flow_next s c = record { high = cells s.fixed c; parts = cells s.waiting c; event = reaches c }

-- The lower of two; the first, if they are level.
abbrev pub lower : Next → Next → Next
lower a b = cond (ltb (b.high * a.parts) (a.high * b.parts)) b a

-- The lowest of a first one and the n numbered ones.
unfoldable pub lowest : ℕ → (ℕ → Next) → Next → Next
lowest zero f first = first
lowest (suc n) f first = lower (lowest n f first) (f n)

-- What happens next: limits go before flows.
unfoldable pub next : Problem → State → Next
next P s = lowest P.flows (flow_next s) (lowest P.limits (limit_next P s) never)

-- The rising flow c meets its demand at or below the level.
abbrev pub meets : Problem → State → Next → ℕ → Bool
meets P s e c =
    ltb 0 (cells s.rising c) && leb (P.demand c * s.base * e.parts) (e.high * cells s.rising c)

-- Some number below n passes the test.
unfoldable pub some : ℕ → (ℕ → Bool) → Bool
some zero test = false
some (suc n) test = test n || some n test

-- Every rising flow that meets its demand stops there.
unfoldable pub stop_met : Problem → State → Next → State
stop_met P s e =
    record {
      base = s.base;
      fixed = list P.flows (λ c. cond (meets P s e c) (P.demand c * s.base) (cells s.fixed c));
      rising = list P.flows (λ c. cond (meets P s e c) 0 (cells s.rising c));
      waiting = s.waiting;
    }

-- Limit l fills: all that rise through it stop at the level, and all that wait in it stop where they are. The base is
-- multiplied by the parts, so that the level is whole.
unfoldable pub shut : Problem → State → Next → ℕ → State
shut P s e l =
    record {
      base = s.base * e.parts;
      fixed =
          list P.flows
          (λ c. cells s.fixed c * e.parts + on (P.through l c) (cells s.rising c * e.high));
      rising = list P.flows (λ c. on (not (P.through l c)) (cells s.rising c));
      waiting = list P.flows (λ c. on (not (P.through l c)) (cells s.waiting c));
    }

-- Flow f has waited long enough, and rises.
unfoldable pub free : Problem → State → ℕ → State
free P s f =
    record {
      base = s.base;
      fixed = list P.flows (λ c. cond (eqb c f) 0 (cells s.fixed c));
      rising = list P.flows (λ c. cond (eqb c f) (cells s.waiting c) (cells s.rising c));
      waiting = list P.flows (λ c. cond (eqb c f) 0 (cells s.waiting c));
    }

-- The event takes place.
unfoldable pub happen : Problem → State → Next → Event → State
happen P s e nothing = s
happen P s e (fills l) = shut P s e l
happen P s e (reaches c) = free P s c

-- One round: flows that meet their demands at or below the level stop first, and only if there are none the event.
unfoldable pub round : Problem → State → Next → State
round P s e = elim (some P.flows (meets P s e)) [ true ↦ stop_met P s e | false ↦ happen P s e e.event ]

-- At most n rounds, until nothing can happen.
unfoldable pub fill : ℕ → Problem → State → State
fill zero P s = s
fill (suc n) P s = let e = next P s in elim (eqb e.parts 0) [ true ↦ s | false ↦ fill n P (round P s e) ]

-- What is still to be done: rising weights, and waiting ones twice, since they have yet to rise. Each round takes
-- something off it, so as many rounds are enough.
unfoldable pub work : Problem → State → ℕ
work P s = total P.flows (λ c. true) (λ c. cells s.rising c + 2 * cells s.waiting c)

unfoldable pub filled : Problem → State
filled P = fill (work P (start P)) P (start P)

-- The rates whose numerators over a base are a list's.
abbrev pub over : ℕ → List ℕ → Allocation
over b xs = record { base = b; numerator = cells xs }

-- The rates of a state in which nothing rises or waits any more.
abbrev pub rates_of : State → Allocation
rates_of s = over s.base s.fixed
