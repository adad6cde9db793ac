-- What a walk over the cells has done so far to the engine's tables.
use Rattle.std.specs.Prelude.{ℕ, ◌+◌, ◌*◌, ◌≤◌, ◌<◌, ◌≡◌, Bool, true, false, List, length, set}
use Rattle.laws.specs.Lists.{cells}
use Rattle.fairness.specs.Total.{on, total}
use Rattle.planner.specs.Sizes.{most_parts}
use Rattle.planner.specs.Limits.{limits_of, through}
use Rattle.planner.specs.declared.tables.Tables.{Tables}

-- No entry of the first n is above `most`.
pub record Bounded (n most : ℕ) (table : List ℕ) : Type 0 where
  pub each : (i : ℕ) → i < n → cells table i ≤ most

-- The number of every limit that the flow of cell c passes is as `Fit` says.
pub record Passed (cards : Bool) (c : ℕ) (Fit : ℕ → Type 0) (table : List ℕ) : Type 0 where
  pub long : length table ≡ 20
  pub each : (l : ℕ) → l < limits_of cards → through l c ≡ true → Fit (cells table l)

-- Each of these limits has at least x.
abbrev pub Covers : Bool → ℕ → ℕ → List ℕ → Type 0
Covers cards c x = Passed cards c (λ y. x ≤ y)

-- Each can take x more in 64 bits.
abbrev pub Holds : Bool → ℕ → ℕ → List ℕ → Type 0
Holds cards c x = Passed cards c (λ y. y + x < 18_446_744_073_709_551_616)

-- Each of these numbers has changed as `To` says of the old and the new one, and no other limit's has.
pub record Changed (cards : Bool) (c : ℕ) (To : ℕ → ℕ → Type 0) (old new : List ℕ) : Type 0 where
  pub long : (length old ≡ 20) × (length new ≡ 20)
  pub passed : (l : ℕ) → l < limits_of cards → through l c ≡ true → To (cells old l) (cells new l)
  pub others : (l : ℕ) → l < limits_of cards → through l c ≡ false → cells new l ≡ cells old l

-- The flow of cell c has been given x: every limit that it passes has x less. Read from new to old it has x more.
pub record Lowered (cards : Bool) (c x : ℕ) (old new : List ℕ) : Type 0 where
  pub long : (length old ≡ 20) × (length new ≡ 20)
  pub each : (l : ℕ) → l < limits_of cards → cells new l + on (through l c) x ≡ cells old l

-- What is left of the flow's limits covers x, and what rises through them its weight.
abbrev pub Spares : Bool → ℕ → ℕ → ℕ → Tables → Type 0
Spares cards c x weight t = Covers cards c x t.left × Covers cards c weight t.parts

-- What becomes of the tables as one flow is given x: its stage, what is left of its limits, and what rises through them.
pub record Halted (cards : Bool) (c stage x weight : ℕ) (old new : Tables) : Type 0 where
  pub marked : new.stages ≡ set old.stages c stage
  pub taken : Lowered cards c x old.left new.left
  pub freed : Lowered cards c weight old.parts new.parts

-- The same as one flow begins: it may rise, with its weight.
pub record Begun (cards : Bool) (c stage x weight : ℕ) (old new : Tables) : Type 0 where
  pub marked : new.stages ≡ set old.stages c stage
  pub taken : Lowered cards c x old.left new.left
  pub risen : Lowered cards c weight new.parts old.parts

-- Every limit has room for all that x says.
pub record Roomy (cards : Bool) (x : ℕ → ℕ) (table : List ℕ) : Type 0 where
  pub long : length table ≡ 20
  pub each : (l : ℕ) → l < limits_of cards → total 64 (through l) x ≤ cells table l

-- The same once what a table holds has been multiplied by k.
pub record RoomyBy (cards : Bool) (k : ℕ) (x : ℕ → ℕ) (table : List ℕ) : Type 0 where
  pub long : length table ≡ 20
  pub each : (l : ℕ) → l < limits_of cards → total 64 (through l) x ≤ cells table l * k

-- The tables have room for all rates, and for all weights.
abbrev pub SparesAll : Bool → (ℕ → ℕ) → (ℕ → ℕ) → Tables → Type 0
SparesAll cards x weight t = Roomy cards x t.left × Roomy cards weight t.parts

-- The first i cells have been given what x says.
pub record Taken (cards : Bool) (i : ℕ) (x : ℕ → ℕ) (old new : List ℕ) : Type 0 where
  pub long : length new ≡ 20
  pub each : (l : ℕ) → l < limits_of cards → cells new l + total i (through l) x ≡ cells old l

-- Of a table of sums, that the first i cells have been added to it.
pub record Added (cards : Bool) (i : ℕ) (x : ℕ → ℕ) (new : List ℕ) : Type 0 where
  pub long : length new ≡ 20
  pub each : (l : ℕ) → l < limits_of cards → cells new l ≡ total i (through l) x

-- The first i cells hold what the rule says, and the others what they held.
pub record Marked (i : ℕ) (rule : ℕ → ℕ) (old new : List ℕ) : Type 0 where
  pub long : length new ≡ 64
  pub before : (c : ℕ) → c < i → cells new c ≡ rule c
  pub after : (c : ℕ) → i ≤ c → c < 64 → cells new c ≡ cells old c

-- The first entries of a table of the limits have been multiplied by k.
pub record Scaled (count k : ℕ) (old new : List ℕ) : Type 0 where
  pub long : length new ≡ 20
  pub each : (l : ℕ) → l < count → cells new l ≡ cells old l * k
  pub rest : (l : ℕ) → count ≤ l → cells new l ≡ cells old l

-- How far a walk over the cells has come: the first i flows have been given what the rules say.
pub record Swept (cards : Bool) (i : ℕ) (stage x weight : ℕ → ℕ) (old new : Tables) : Type 0 where
  pub marked : Marked i stage old.stages new.stages
  pub taken : Taken cards i x old.left new.left
  pub freed : Taken cards i weight old.parts new.parts

-- No limit has more weights than the engine can take.
pub record Shared (cards : Bool) (weights : List ℕ) : Type 0 where
  pub each : (l : ℕ) → l < limits_of cards → total 64 (through l) (cells weights) ≤ most_parts
