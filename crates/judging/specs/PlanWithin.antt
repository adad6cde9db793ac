-- A plan's numbers within their limits, from document 01's table 'Numbers' and the text below it, and not from the refusals.
use Rattle.std.specs.Prelude.{ℕ, ◌≤◌, ◌<◌, ◌⊎◌, ◌≡◌, get_or, length}
use Rattle.switch.specs.Cells.{cell_of}
use Rattle.switch.specs.Rates.{flow, rates_of}
use Rattle.switch.specs.declared.plan.Plan.{Plan}
use Rattle.switch.specs.declared.port.Input.{Input}
use Rattle.switch.specs.declared.port.Output.{Output}
use Rattle.switch.specs.declared.request.Request.{Request}

-- The reason that a plan gives a cell.
abbrev pub said_reason : Plan → ℕ → ℕ
said_reason p c = get_or p.reasons c 0

pub record PlanWithin (r : Request) (p : Plan) : Type 0 where
  -- the table's last line
  pub base : (1 ≤ p.base) × (p.base ≤ 4_294_967_296)
  -- the text below it: what is not used holds 0
  pub unused_rate : (u : Input) (v : Output) → u.0 < 8 → v.0 < 8 → (r.m ≤ u.0) ⊎ (r.n ≤ v.0) → flow (rates_of p) u v ≡ 0
  pub unused_reason : (u : Input) (v : Output) → u.0 < 8 → v.0 < 8 → (r.m ≤ u.0) ⊎ (r.n ≤ v.0) → said_reason p (cell_of u v) ≡ 0

-- What the type of a plan says of its tables. A list in the logic could be shorter or longer.
pub record PlanShaped (p : Plan) : Type 0 where
  pub numerators : length p.numerators ≡ 64
  pub reasons : length p.reasons ≡ 64
