-- The halves of a plan by their numbers: block 1 of a plan file has half 0, and block 2 has half 1.
use Rattle.std.specs.Prelude.{ℕ}
use Rattle.switch.specs.declared.plan.Half.{Half}
use Rattle.switch.specs.declared.plan.Half.TheVariants.{First, Second}

abbrev pub half_number : Half → ℕ
half_number First = 0
half_number Second = 1
