-- What holds of a filling between its rounds, and what a round may do. Whatever moves by these rules ends fair, a
-- program that keeps its state otherwise too.
use Rattle.std.specs.Prelude.{ℕ, ◌+◌, ◌*◌, ◌≤◌, ◌<◌, ◌≡◌, Bool, true, List, ◌⊎◌, ltb, length}
use Rattle.fairness.specs.Total.{on, total}
use Rattle.fairness.specs.Product.{sum, product}
use Rattle.fairness.specs.Problem.{Problem, across}
use Rattle.laws.specs.Lists.{cells}
use Rattle.fairness.specs.Filling.{State, start}

-- Limit l is done with, and is why c has stopped: nothing in it rises or waits, it is full, and every flow through it
-- is at most c or stands at its minimum.
pub record Closed (P : Problem) (s : State) (l c : ℕ) : Type 0 where
  pub passes : P.through l c ≡ true
  pub idle : (g : ℕ) → g < P.flows → P.through l g ≡ true → (cells s.rising g ≡ 0) × (cells s.waiting g ≡ 0)
  pub full : across P l (cells s.fixed) ≡ P.capacity l * s.base
  pub highest : (g : ℕ) → g < P.flows → P.through l g ≡ true
      → (cells s.fixed g * P.weight c ≤ cells s.fixed c * P.weight g)
      ⊎ (cells s.fixed g ≡ P.minimum g * s.base)

-- The flow rises: the level p / q, times its weight, lies between its minimum and its demand.
pub record Rising (P : Problem) (s : State) (p q c : ℕ) : Type 0 where
  pub up : cells s.rising c ≡ P.weight c
  pub calm : cells s.waiting c ≡ 0
  pub unfixed : cells s.fixed c ≡ 0
  pub low : P.minimum c * s.base * q ≤ p * P.weight c
  pub high : p * P.weight c ≤ P.demand c * s.base * q

-- The flow waits at its minimum, which the level has not passed.
pub record Waiting (P : Problem) (s : State) (p q c : ℕ) : Type 0 where
  pub still : cells s.rising c ≡ 0
  pub waits : cells s.waiting c ≡ P.weight c
  pub here : cells s.fixed c ≡ P.minimum c * s.base
  pub ahead : p * P.weight c ≤ P.minimum c * s.base * q

-- The flow has stopped: at its demand, or at a limit that is done with; and not above the level, unless at its minimum.
pub record Stopped (P : Problem) (s : State) (p q c : ℕ) : Type 0 where
  pub still : cells s.rising c ≡ 0
  pub calm : cells s.waiting c ≡ 0
  pub at_least : P.minimum c * s.base ≤ cells s.fixed c
  pub at_most : cells s.fixed c ≤ P.demand c * s.base
  pub passed : (cells s.fixed c * q ≤ p * P.weight c) ⊎ (cells s.fixed c ≡ P.minimum c * s.base)
  pub why : (cells s.fixed c ≡ P.demand c * s.base) ⊎ ((l : ℕ) × (l < P.limits) × Closed P s l c)

pub data Stage (P : Problem) (s : State) (p q c : ℕ) : Type 0 where
  rises : Rising P s p q c → Stage P s p q c
  waits : Waiting P s p q c → Stage P s p q c
  stopped : Stopped P s p q c → Stage P s p q c

-- The filling has come to the level p / q, which no program has to hold: each flow is at one of the three stages, and
-- with the rising flows at the level no limit is over its capacity.
pub record Underway (P : Problem) (s : State) (p q : ℕ) : Type 0 where
  pub based : 0 < s.base
  pub parted : 0 < q
  pub stage : (c : ℕ) → c < P.flows → Stage P s p q c
  pub room : (l : ℕ) → l < P.limits
      → across P l (cells s.fixed) * q + across P l (cells s.rising) * p ≤ P.capacity l * s.base * q

-- The level can be raised from p / q to a / k: it is no lower, no limit overflows, and no waiting flow is passed.
pub record Reached (P : Problem) (s : State) (p q a k : ℕ) : Type 0 where
  pub parted : 0 < k
  pub above : p * k ≤ a * q
  pub room : (l : ℕ) → l < P.limits
      → across P l (cells s.fixed) * k + across P l (cells s.rising) * a ≤ P.capacity l * s.base * k
  pub ahead : (c : ℕ) → c < P.flows → a * cells s.waiting c ≤ cells s.fixed c * k

-- Limit l is full at the level a / k, and every flow through it stops: a rising one at the level, the others where
-- they stand. The new base is m times the old.
pub record Shutting (P : Problem) (s t : State) (a k m l : ℕ) : Type 0 where
  pub listed : l < P.limits
  pub full : across P l (cells s.fixed) * k + across P l (cells s.rising) * a ≡ P.capacity l * s.base * k
  pub idle : (g : ℕ) → g < P.flows → P.through l g ≡ true → (cells t.rising g ≡ 0) × (cells t.waiting g ≡ 0)
  pub level : (g : ℕ) → g < P.flows → P.through l g ≡ true
      → cells t.fixed g * k ≡ (cells s.fixed g * k + cells s.rising g * a) * m

-- What may become of a flow in a round at the level a / k: it goes on as it was; it meets its demand; a limit through
-- it shuts; or its minimum is reached and it rises.
pub data Moved (P : Problem) (s t : State) (a k m c : ℕ) : Type 0 where
  kept : cells t.rising c ≡ cells s.rising c → cells t.waiting c ≡ cells s.waiting c
      → cells t.fixed c ≡ cells s.fixed c * m
      → a * cells s.rising c ≤ P.demand c * s.base * k → Moved P s t a k m c
  met : 0 < cells s.rising c → P.demand c * s.base * k ≤ a * cells s.rising c
      → cells t.rising c ≡ 0 → cells t.waiting c ≡ 0 → cells t.fixed c ≡ P.demand c * s.base * m
      → Moved P s t a k m c
  shut_off : (l : ℕ) → P.through l c ≡ true → Shutting P s t a k m l
      → a * cells s.rising c ≤ P.demand c * s.base * k → Moved P s t a k m c
  freed : 0 < cells s.waiting c → cells s.fixed c * k ≡ a * cells s.waiting c
      → cells t.rising c ≡ cells s.waiting c → cells t.waiting c ≡ 0 → cells t.fixed c ≡ 0
      → Moved P s t a k m c

-- A round at the level a / k.
pub record Step (P : Problem) (s t : State) (a k m : ℕ) : Type 0 where
  pub positive : 0 < m
  pub base : t.base ≡ s.base * m
  pub moved : (c : ℕ) → c < P.flows → Moved P s t a k m c

-- The weight of a flow that rises or waits, 0 of one that has stopped; and all of them added up.
abbrev pub live : State → ℕ → ℕ
live s c = cells s.rising c + cells s.waiting c

abbrev pub afoot : Problem → State → ℕ
afoot P s = total P.flows (λ c. true) (live s)

-- Something rises or waits in limit l.
abbrev pub is_open : Problem → State → ℕ → Bool
is_open P s l = ltb 0 (across P l (live s))

-- How many limits are open.
abbrev pub opens : Problem → State → ℕ
opens P s = total P.limits (λ l. true) (λ l. on (is_open P s l) 1)

-- Only flows that ask for something ever rise or wait: their weights, and how many limits hold one of them.
abbrev pub busy : Problem → ℕ → ℕ
busy P c = on (ltb 0 (P.demand c)) (P.weight c)

abbrev pub busy_weight : Problem → ℕ
busy_weight P = total P.flows (λ c. true) (busy P)

abbrev pub busy_limits : Problem → ℕ
busy_limits P = total P.limits (λ l. true) (λ l. on (ltb 0 (across P l (busy P))) 1)

-- The base is the product of the divisors so far. Each closed a limit, and stopped flows of that many weights.
pub record Counted (P : Problem) (s₀ s : State) : Type 0 where
  pub divisors : List ℕ
  pub base : s.base ≡ product divisors
  pub few : length divisors + opens P s ≤ opens P s₀
  pub small : sum divisors + afoot P s ≤ afoot P s₀

-- Where a filling can stand between two rounds: at some level, and with a count of its divisors.
pub record Between (P : Problem) (s : State) : Type 0 where
  pub p : ℕ
  pub q : ℕ
  pub underway : Underway P s p q
  pub counted : Counted P (start P) s
