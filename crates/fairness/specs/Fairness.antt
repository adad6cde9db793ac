-- Fairness over a list of limits: feasible, bounded, fair, bottleneck, settled.
use Rattle.std.specs.Prelude.{ℕ, ◌*◌, ◌≤◌, ◌<◌, ◌≡◌, true, ◌⊎◌, ◌≢◌}
use Rattle.fairness.specs.Problem.{Problem, across}

-- One rate for each flow: its numerator over the base that all of them share.
pub record Allocation : Type 0 where
  pub base : ℕ
  pub numerator : ℕ → ℕ

-- The rates of a limit's flows add up to at most its capacity.
pub record Feasible (P : Problem) (a : Allocation) : Type 0 where
  pub room : (l : ℕ) → l < P.limits → across P l a.numerator ≤ P.capacity l * a.base

-- No rate is below the flow's minimum or above its demand.
pub record Bounded (P : Problem) (a : Allocation) : Type 0 where
  pub at_least : (c : ℕ) → c < P.flows → P.minimum c * a.base ≤ a.numerator c
  pub at_most : (c : ℕ) → c < P.flows → a.numerator c ≤ P.demand c * a.base

-- The allocations that are compared: over a positive base, feasible and bounded.
pub record Allowed (P : Problem) (a : Allocation) : Type 0 where
  pub positive : 0 < a.base
  pub feasible : Feasible P a
  pub bounded : Bounded P a

-- g's rate is at most f's, each divided by its weight.
abbrev pub AtMost : (P : Problem) → Allocation → ℕ → ℕ → Type 0
AtMost P a g f = a.numerator g * P.weight f ≤ a.numerator f * P.weight g

-- The allocation z gives f more than a does, and no less to every other flow that is at most f.
pub record Better (P : Problem) (a : Allocation) (f : ℕ) (z : Allocation) : Type 0 where
  pub allowed : Allowed P z
  pub more : a.numerator f * z.base < z.numerator f * a.base
  pub no_less : (g : ℕ) → g < P.flows → g ≢ f → AtMost P a g f → a.numerator g * z.base ≤ z.numerator g * a.base

-- No allocation, over whatever base, is better for any flow.
pub record Fair (P : Problem) (a : Allocation) : Type 0 where
  pub allowed : Allowed P a
  pub unbeaten : (f : ℕ) → f < P.flows → (z : Allocation) → Better P a f z → ⊥

-- Limit l holds f back: f passes it and is below its demand, the limit is full, and every flow through it is at most
-- f or stands at its own minimum.
pub record Bottleneck (P : Problem) (a : Allocation) (l f : ℕ) : Type 0 where
  pub passes : P.through l f ≡ true
  pub below : a.numerator f < P.demand f * a.base
  pub full : across P l a.numerator ≡ P.capacity l * a.base
  pub highest : (g : ℕ) → g < P.flows → P.through l g ≡ true
      → AtMost P a g f ⊎ (a.numerator g ≡ P.minimum g * a.base)

-- The flow has its demand or a bottleneck.
abbrev pub SettledAt : (P : Problem) → Allocation → ℕ → Type 0
SettledAt P a c = (a.numerator c ≡ P.demand c * a.base) ⊎ ((l : ℕ) × (l < P.limits) × Bottleneck P a l c)

-- Every flow has its demand or a bottleneck.
pub record Settled (P : Problem) (a : Allocation) : Type 0 where
  pub each : (c : ℕ) → c < P.flows → SettledAt P a c

-- The two give every flow the same rate.
pub record SameRates (P : Problem) (a z : Allocation) : Type 0 where
  pub same : (c : ℕ) → c < P.flows → a.numerator c * z.base ≡ z.numerator c * a.base

-- No smaller base gives these rates.
pub record LeastBase (P : Problem) (a : Allocation) : Type 0 where
  pub least : (z : Allocation) → 0 < z.base → SameRates P a z → a.base ≤ z.base
