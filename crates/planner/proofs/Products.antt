-- A product that stays below 64 bits.
use Prim.Native.Nat.{ℕ, ◌*◌, ◌≤◌, ◌<◌}
use native.Mathlib.Nat.{mul-le-mul}
use native.Mathlib.Omega.{arith}
use Rattle.planner.specs.Sizes.{most_high, most_parts}

-- A level's numerator with a number of parts.
-- Stands because docs/PORT-NAMES.md names it; no function cites it today, for a `Level` holds both bounds itself.
pub level_fits : (x y : ℕ) → x ≤ most_high → y ≤ most_parts → x * y < 18_446_744_073_709_551_616
level_fits x y h g = omega (arith, mul-le-mul h g)
