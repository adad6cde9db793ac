-- A problem of sharing: flows that ask for rates, and a list of limits, each a set of flows with a capacity.
use Rattle.std.specs.Prelude.{ℕ, ◌≤◌, ◌<◌, ◌≡◌, Bool, true}
use Rattle.fairness.specs.Total.{total}

-- Flows and limits are numbered from 0. Limit l is the set of flows c with `through l c`, and all of them together
-- may have at most its capacity. A mode without minima has minimum 0 everywhere, and one without weights weight 1.
pub record Problem : Type 0 where
  pub flows : ℕ
  pub limits : ℕ
  pub through : ℕ → ℕ → Bool
  pub capacity : ℕ → ℕ
  pub demand : ℕ → ℕ
  pub minimum : ℕ → ℕ
  pub weight : ℕ → ℕ

-- The sum of x over the flows of a limit.
abbrev pub across : (P : Problem) → ℕ → (ℕ → ℕ) → ℕ
across P l x = total P.flows (P.through l) x

-- What a problem must keep to for a fair allocation to exist: every flow is in some limit, weights are positive,
-- no flow asks for less than its minimum, and the minima fit every limit.
pub record Sound (P : Problem) : Type 0 where
  pub placed : (c : ℕ) → c < P.flows → (l : ℕ) × (l < P.limits) × (P.through l c ≡ true)
  pub weighed : (c : ℕ) → c < P.flows → 0 < P.weight c
  pub least : (c : ℕ) → c < P.flows → P.minimum c ≤ P.demand c
  pub fits : (l : ℕ) → l < P.limits → across P l P.minimum ≤ P.capacity l
