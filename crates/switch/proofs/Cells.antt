-- A cell's number and its ports give each other, and are used together.
use Prim.Native.Nat.{ℕ, ◌<◌, ◌≤◌}
use mathlib.Core.Logic.{◌⊎◌, inl, inr}
use mathlib.Core.Path.{◌≡◌, refl, ◌∙◌, ap}
use mathlib.Core.Bool.{Bool, true, false}
use native.Mathlib.Omega.{arith}
use borrow.Author.Tests.{lt-ltb, le-ltb, ltb-true, ltb-false}
use Rattle.laws.proofs.Search.{both_true}
use Rattle.switch.specs.Cells.{input, output, cell_of, input_of, output_of, input_used, output_used, used, used_cell}
use Rattle.switch.specs.declared.port.Input.{Input}
use Rattle.switch.specs.declared.port.Output.{Output}
use Rattle.switch.specs.declared.request.Request.{Request}
use Rattle.switch.proofs.Tests.{and_false_of, second_false}

pub cell_below : (u : Input) (v : Output) → u.0 < 8 → v.0 < 8 → cell_of u v < 64
cell_below u v hu hv = omega arith

pub cell_of-ports : (c : ℕ) → c < 64 → cell_of (input_of c) (output_of c) ≡ c
cell_of-ports c h = omega arith

pub input_of_cell : (u : Input) (v : Output) → u.0 < 8 → v.0 < 8 → input_of (cell_of u v) ≡ u
input_of_cell u v hu hv = ap input (omega arith)

pub output_of_cell : (u : Input) (v : Output) → v.0 < 8 → output_of (cell_of u v) ≡ v
output_of_cell u v hv = ap output (omega arith)

-- A number above 63 is no cell: its input is one that no switch has, and it is not used.
pub input_beyond : (c : ℕ) → 64 ≤ c → input_of c ≡ input 8
input_beyond c h = ap input (omega arith)

pub unused_beyond : (r : Request) (c : ℕ) → 64 ≤ c → used_cell r c ≡ false
unused_beyond r c h = rw (le-ltb c 64 h)

pub used_of_below : (r : Request) (u : Input) (v : Output) → u.0 < r.m → v.0 < r.n → used r u v ≡ true
used_of_below r u v hu hv = simp (lt-ltb _ _ hu, lt-ltb _ _ hv)

pub below_of_used : (r : Request) (u : Input) (v : Output) → used r u v ≡ true → (u.0 < r.m) × (v.0 < r.n)
below_of_used r u v e =
    let both = both_true (input_used r u) (output_used r v) e in
    (ltb-true u.0 r.m both.0, ltb-true v.0 r.n both.1)

pub unused_of_past : (r : Request) (u : Input) (v : Output) → (r.m ≤ u.0) ⊎ (r.n ≤ v.0) → used r u v ≡ false
unused_of_past r u v (inl h) = simp (le-ltb u.0 r.m h)
unused_of_past r u v (inr h) = and_false_of (input_used r u) (output_used r v) (λ e. le-ltb v.0 r.n h)

pub past_of_unused : (r : Request) (u : Input) (v : Output) → used r u v ≡ false → (r.m ≤ u.0) ⊎ (r.n ≤ v.0)
past_of_unused r u v e = go (input_used r u) refl
  where
    go : (b : Bool) → input_used r u ≡ b → (r.m ≤ u.0) ⊎ (r.n ≤ v.0)
    go true i = inr (ltb-false v.0 r.n (second_false (input_used r u) (output_used r v) e i))
    go false i = inl (ltb-false u.0 r.m i)

pub used_cell_of_ports : (r : Request) (c : ℕ) → c < 64 → used_cell r c ≡ used r (input_of c) (output_of c)
used_cell_of_ports r c h = simp (lt-ltb _ _ h)

pub used_cell_of_cell : (r : Request) (u : Input) (v : Output) → u.0 < 8 → v.0 < 8 → used_cell r (cell_of u v) ≡ used r u v
used_cell_of_cell r u v hu hv =
    used_cell_of_ports r (cell_of u v) (cell_below u v hu hv)
    ∙ ap (λ (x : Input). used r x (output_of (cell_of u v))) (input_of_cell u v hu hv)
    ∙ ap (used r u) (output_of_cell u v hv)
