-- Document 01's section 'Fairness', point by point, and with it the report's definitions 5 and 6. A flow is a used cell,
-- named by its input and its output. Its rate is `flow a u v` over the base, so two rates are compared by multiplying
-- each with the other's base.
use Rattle.std.specs.Prelude.{◌*◌, ◌≤◌, ◌<◌, ◌≡◌, ◌⊎◌, ◌≢◌}
use Rattle.switch.specs.Cells.{cell_of, input_capacity, output_capacity, demand_of}
use Rattle.switch.specs.Rates.{Rates, flow, input_total, output_total}
use Rattle.switch.specs.declared.port.Input.{Input}
use Rattle.switch.specs.declared.port.Output.{Output}
use Rattle.switch.specs.declared.request.Request.{Request}

-- There is a flow from u to v.
pub record Used (r : Request) (u : Input) (v : Output) : Type 0 where
  pub input : u.0 < r.m
  pub output : v.0 < r.n

-- Point 1, feasible: no port's rates add up to more than its capacity, and they may reach it. That no rate is below 0 is
-- said by its type, since a numerator is a whole number.
pub record Feasible (r : Request) (a : Rates) : Type 0 where
  pub inputs : (u : Input) → u.0 < r.m → input_total r a u ≤ input_capacity r u * a.base
  pub outputs : (v : Output) → v.0 < r.n → output_total r a v ≤ output_capacity r v * a.base

-- Point 2, bounded: no flow has more than its demand.
pub record Bounded (r : Request) (a : Rates) : Type 0 where
  pub demands : (u : Input) (v : Output) → Used r u v → flow a u v ≤ demand_of r (cell_of u v) * a.base

-- What fairness compares: rates that are feasible and bounded, over any base but 0.
pub record Allocation (r : Request) (a : Rates) : Type 0 where
  pub positive : 0 < a.base
  pub feasible : Feasible r a
  pub bounded : Bounded r a

-- Under z the flow from u to v has more than under a, and every other flow that is now at most as large has no less.
pub record GivesMore (r : Request) (a : Rates) (u : Input) (v : Output) (z : Rates) : Type 0 where
  pub more : flow a u v * z.base < flow z u v * a.base
  pub no_less : (u' : Input) (v' : Output) → Used r u' v' → cell_of u' v' ≢ cell_of u v → flow a u' v' ≤ flow a u v
      → flow a u' v' * z.base ≤ flow z u' v' * a.base

-- Point 3, fair: feasible and bounded, and no allocation, over whatever base, gives any flow more in this way.
pub record Fair (r : Request) (a : Rates) : Type 0 where
  pub allocation : Allocation r a
  pub unbeaten : (u : Input) (v : Output) → Used r u v → (z : Rates) → Allocation r z → GivesMore r a u v z → ⊥

-- Point 4, for the input of a flow: it is a bottleneck if the flow is below its demand, the input's rates add up to its
-- capacity and nothing less, and no flow through the input is larger.
pub record InputBottleneck (r : Request) (a : Rates) (u : Input) (v : Output) : Type 0 where
  pub below : flow a u v < demand_of r (cell_of u v) * a.base
  pub full : input_total r a u ≡ input_capacity r u * a.base
  pub greatest : (v' : Output) → v'.0 < r.n → flow a u v' ≤ flow a u v

-- Point 4, for its output.
pub record OutputBottleneck (r : Request) (a : Rates) (u : Input) (v : Output) : Type 0 where
  pub below : flow a u v < demand_of r (cell_of u v) * a.base
  pub full : output_total r a v ≡ output_capacity r v * a.base
  pub greatest : (u' : Input) → u'.0 < r.m → flow a u' v ≤ flow a u v

-- Every flow has its demand or a bottleneck: what point 5 holds against fair.
pub record Settled (r : Request) (a : Rates) : Type 0 where
  pub each : (u : Input) (v : Output) → Used r u v
      → (flow a u v ≡ demand_of r (cell_of u v) * a.base) ⊎ (InputBottleneck r a u v ⊎ OutputBottleneck r a u v)

-- Both give every flow the same rate.
pub record SameRates (r : Request) (a z : Rates) : Type 0 where
  pub same : (u : Input) (v : Output) → Used r u v → flow a u v * z.base ≡ flow z u v * a.base

-- The base of a plan, from the end of the section: no smaller one gives these rates.
pub record LeastBase (r : Request) (a : Rates) : Type 0 where
  pub least : (z : Rates) → 0 < z.base → SameRates r a z → a.base ≤ z.base

-- Unused cells hold 0 ('Numbers').
pub record Blank (r : Request) (a : Rates) : Type 0 where
  pub unused : (u : Input) (v : Output) → u.0 < 8 → v.0 < 8 → (r.m ≤ u.0) ⊎ (r.n ≤ v.0) → flow a u v ≡ 0
