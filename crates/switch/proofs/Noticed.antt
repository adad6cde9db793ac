-- Every fault of a request is an offender of one of its rows, so that what is refused is the first fault.
use Prim.Native.Nat.{ℕ, ◌≤◌, ◌<◌}
use mathlib.Core.Logic.{◌⊎◌, inl, inr}
use mathlib.Core.Path.{◌≡◌, refl, ◌∙◌, ap}
use mathlib.Core.Bool.{true, not, ◌&&◌, and-false}
use mathlib.Core.List.{List, ◌∷◌}
use native.Mathlib.Omega.{arith}
use lib.Dec.{leb}
use borrow.Author.Tests.{lt-ltb, le-ltb, lt-leb}
use Rattle.laws.proofs.Search.{true_of_both}
use Rattle.switch.specs.Cells.{cell_of, used_cell}
use Rattle.switch.specs.Fault.{Fault, inputs, outputs, input_above_fault, output_above_fault, demand_above_fault}
use Rattle.switch.specs.Fault.{unused_input, unused_output, unused_cell}
use Rattle.switch.specs.RequestRows.{above, ports_row, inputs_above, outputs_above, capacity_row, demand_row}
use Rattle.switch.specs.RequestRows.{inputs_not_zero, outputs_not_zero, cells_not_zero, not_zero_row, request_rows}
use Rattle.switch.specs.Rows.{Row, joined}
use Rattle.switch.specs.declared.port.Input.{Input}
use Rattle.switch.specs.declared.port.Output.{Output}
use Rattle.switch.specs.declared.request.Request.{Request}
use Rattle.switch.proofs.Cells.{cell_below, used_of_below, unused_of_past, used_cell_of_cell}
use Rattle.switch.proofs.First.{Noticed}
use Rattle.switch.proofs.Rising.{Rising, rising_steps, rising_joined}
use Rattle.switch.proofs.Rows.{Each, each_nil, each_cons, each_here, each_after, each_after_three, Named, named_first, named_second}
use Rattle.switch.proofs.Sharing.{Past}

-- A number outside its range fails the test of it.
pub outside_of : (most k : ℕ) → (k < 1) ⊎ (most < k) → not (leb 1 k && leb k most) ≡ true
outside_of most k (inl l) = simp (lt-leb 1 k l)
outside_of most k (inr l) = rw (lt-leb k most l) (ap not (and-false (leb 1 k)))

module _ (r : Request) where
  -- A number of an unused cell that is not 0 fails the test of it.
  pub not_zero_of : (u : Input) (v : Output) (x : ℕ) → u.0 < 8 → v.0 < 8 → Past r u v → 0 < x
      → above (not (used_cell r (cell_of u v))) 0 x ≡ true
  not_zero_of u v x hu hv past more =
      true_of_both (ap not (used_cell_of_cell r u v hu hv ∙ unused_of_past r u v past)) (lt-ltb 0 x more)

  -- What holds of the offenders of its rows holds of every fault.
  module _ (Q : ℕ → ℕ → Type 0) (all : Each (Named Q) (request_rows r)) where
    ports : Named Q (ports_row r)
    ports = each_here _ all

    capacities : Named Q (capacity_row r)
    capacities = each_here _ (each_after _ all)

    zeros : Named Q (not_zero_row r)
    zeros = each_here _ (each_after_three _ all)

    later_zeros : Named Q (joined (outputs_not_zero r) (cells_not_zero r))
    later_zeros = named_second (inputs_not_zero r) (joined (outputs_not_zero r) (cells_not_zero r)) Q refl zeros

    fault_noticed : {k p : ℕ} → Fault r k p → Q k p
    fault_noticed (inputs h) = ports 0 (omega arith) (outside_of 8 r.m h)
    fault_noticed (outputs h) = ports 1 (omega arith) (outside_of 8 r.n h)
    fault_noticed (input_above_fault u hu used over) =
        named_first (inputs_above r) (outputs_above r) Q capacities u.0 hu (true_of_both (lt-ltb _ _ used) (lt-ltb _ _ over))
    fault_noticed (output_above_fault v hv used over) =
        named_second (inputs_above r) (outputs_above r) Q refl capacities v.0 hv (true_of_both (lt-ltb _ _ used) (lt-ltb _ _ over))
    fault_noticed (demand_above_fault u v hu hv usedu usedv over) =
        each_here _ (each_after _ (each_after _ all)) (cell_of u v) (cell_below u v hu hv)
        (true_of_both (used_cell_of_cell r u v hu hv ∙ used_of_below r u v usedu usedv) (lt-ltb _ _ over))
    fault_noticed (unused_input u hu past more) =
        named_first (inputs_not_zero r) (joined (outputs_not_zero r) (cells_not_zero r)) Q zeros u.0 hu
        (true_of_both (ap not (le-ltb _ _ past)) (lt-ltb _ _ more))
    fault_noticed (unused_output v hv past more) =
        named_first (outputs_not_zero r) (cells_not_zero r) Q later_zeros v.0 hv
        (true_of_both (ap not (le-ltb _ _ past)) (lt-ltb _ _ more))
    fault_noticed (unused_cell u v hu hv past more) =
        named_second (outputs_not_zero r) (cells_not_zero r) Q refl later_zeros (cell_of u v) (cell_below u v hu hv)
        (not_zero_of u v _ hu hv past more)

  pub request_noticed : Noticed (request_rows r) (Fault r)
  request_noticed Q on all k p = fault_noticed Q all

  -- Other lists of rows have another row 7, which goes on where the request's ends, and rows after it.
  pub request_among : (P : Row → Type 0) {rest : List Row} → Each P (ports_row r ∷ capacity_row r ∷ demand_row r ∷ rest)
      → P (not_zero_row r) → Each P (request_rows r)
  request_among P all zeros =
      let later = each_after P all in
      each_cons P (each_here P all)
      (each_cons P (each_here P later) (each_cons P (each_here P (each_after P later)) (each_cons P zeros (each_nil P))))

  -- The places of the request's rows are words of its file, and rise.
  module _ {high : ℕ} (h : 83 ≤ high) where
    pub limits_rising : {rest : List Row} → Each (Rising 0 high) rest
        → Each (Rising 0 high) (ports_row r ∷ capacity_row r ∷ demand_row r ∷ rest)
    limits_rising rest =
        each_cons _ (rising_steps (ports_row r) 1 1 (λ i. omega arith) (omega arith) (omega arith))
        (each_cons _
        (rising_joined (inputs_above r) (outputs_above r) 11
        (rising_steps (inputs_above r) 3 1 (λ i. omega arith) (omega arith) (omega arith))
        (rising_steps (outputs_above r) 11 1 (λ i. omega arith) (omega arith) (omega arith)))
        (each_cons _ (rising_steps (demand_row r) 19 1 (λ i. omega arith) (omega arith) (omega arith)) rest))

    pub zeros_rising : Rising 0 high (not_zero_row r)
    zeros_rising =
        rising_joined (inputs_not_zero r) (joined (outputs_not_zero r) (cells_not_zero r)) 11
        (rising_steps (inputs_not_zero r) 3 1 (λ i. omega arith) (omega arith) (omega arith))
        (rising_joined (outputs_not_zero r) (cells_not_zero r) 19
        (rising_steps (outputs_not_zero r) 11 1 (λ i. omega arith) (omega arith) (omega arith))
        (rising_steps (cells_not_zero r) 19 1 (λ i. omega arith) (omega arith) (omega arith)))
