-- The empty plan holds base 1 and nothing else, and the request of zeros nothing at all.
use Prim.Native.Nat.{ℕ, zero, suc}
use mathlib.Core.Path.{◌≡◌, refl}
use lib.ListN.{length, get_or, replicate}
use Rattle.switch.specs.Cells.{input_capacity, output_capacity, demand_of}
use Rattle.switch.specs.Values.{zero_request, empty_plan}
use Rattle.switch.specs.declared.port.Input.{Input}
use Rattle.switch.specs.declared.port.Output.{Output}

zeros : (n c : ℕ) → ◌≡◌ {A = ℕ} (get_or (replicate n 0) c 0) 0
zeros zero c = refl
zeros (suc n) zero = refl
zeros (suc n) (suc c) = zeros n c

pub empty_plan_is_empty : (empty_plan.base ≡ 1)
    × ((c : ℕ) → (get_or empty_plan.numerators c 0 ≡ 0) × (get_or empty_plan.reasons c 0 ≡ 0))
    × (length empty_plan.numerators ≡ 64) × (length empty_plan.reasons ≡ 64)
empty_plan_is_empty = (refl, λ c. (zeros 64 c, zeros 64 c), refl, refl)

pub zero_request_is_zero : (zero_request.m ≡ 0) × (zero_request.n ≡ 0)
    × ((u : Input) → input_capacity zero_request u ≡ 0) × ((v : Output) → output_capacity zero_request v ≡ 0)
    × ((c : ℕ) → demand_of zero_request c ≡ 0)
zero_request_is_zero = (refl, refl, λ u. zeros 8 u.0, λ v. zeros 8 v.0, zeros 64)
