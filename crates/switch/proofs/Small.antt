-- The numbers of a request within the limits are small, those of unused ports and cells too.
use Prim.Native.Nat.{ℕ, ◌≤◌, ◌<◌}
use mathlib.Core.Logic.{◌⊎◌, inl, inr}
use native.Mathlib.Omega.{arith}
use Rattle.laws.proofs.Search.{le_or_lt}
use Rattle.switch.specs.Cells.{input_capacity, output_capacity, demand_of}
use Rattle.switch.specs.Within.{Within}
use Rattle.switch.specs.declared.port.Input.{Input}
use Rattle.switch.specs.declared.port.Output.{Output}
use Rattle.switch.specs.declared.request.Request.{Request}
use Rattle.switch.proofs.Sharing.{by_cell}

module _ (r : Request) (w : Within r) where
  pub input_small : (u : Input) → u.0 < 8 → input_capacity r u ≤ 16_777_216
  input_small u h = go (le_or_lt r.m u.0)
    where
      go : (r.m ≤ u.0) ⊎ (u.0 < r.m) → input_capacity r u ≤ 16_777_216
      go (inl past) = omega (arith, w.unused_input u past h)
      go (inr used) = w.input_capacity_within u used

  pub output_small : (v : Output) → v.0 < 8 → output_capacity r v ≤ 16_777_216
  output_small v h = go (le_or_lt r.n v.0)
    where
      go : (r.n ≤ v.0) ⊎ (v.0 < r.n) → output_capacity r v ≤ 16_777_216
      go (inl past) = omega (arith, w.unused_output v past h)
      go (inr used) = w.output_capacity_within v used

  pub demand_small : (c : ℕ) → c < 64 → demand_of r c ≤ 16_777_216
  demand_small =
      by_cell r (λ c. demand_of r c ≤ 16_777_216) (λ u v is. w.demand u v is.input is.output)
      (λ u v hu hv past. omega (arith, w.unused_cell u v hu hv past))
