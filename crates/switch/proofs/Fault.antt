-- The number and the place of a refusal of a request name a fault that is there.
use Prim.Native.Nat.{ℕ, zero, suc, ◌+◌, ◌≤◌, ◌<◌}
use mathlib.Core.Logic.{◌⊎◌, inl, inr}
use mathlib.Core.Path.{◌≡◌, refl, sym, ◌∙◌, subst}
use mathlib.Core.Bool.{true, not}
use native.Mathlib.Omega.{arith}
use lib.Dec.{ltb}
use borrow.Author.Tests.{ltb-true, ltb-false, not-true}
use Rattle.laws.proofs.Search.{le_or_lt, both_true, true_not_false}
use Rattle.switch.specs.Cells.{input, output, cell_of, input_of, output_of, input_used, output_used, used_cell}
use Rattle.switch.specs.Cells.{input_capacity, output_capacity, demand_of}
use Rattle.switch.specs.Fault.{Fault, inputs, outputs, input_above_fault, output_above_fault, demand_above_fault}
use Rattle.switch.specs.Fault.{unused_input, unused_output, unused_cell}
use Rattle.switch.specs.Given.{Gives}
use Rattle.switch.specs.RequestRows.{outside, ports_row, inputs_above, outputs_above, capacity_row, demand_row}
use Rattle.switch.specs.RequestRows.{inputs_not_zero, outputs_not_zero, cells_not_zero, not_zero_row, request_rows, request_verdict}
use Rattle.switch.specs.Rows.{joined}
use Rattle.switch.specs.declared.request.Request.{Request}
use Rattle.switch.proofs.Cells.{cell_of-ports, below_of_used, past_of_unused, used_cell_of_ports}
use Rattle.switch.proofs.Rows.{each_nil, each_cons, Named, named_joined, gives_named}
use Rattle.switch.proofs.Within.{not_outside_of_inside}

outside_says : (k : ℕ) → outside k ≡ true → (k < 1) ⊎ (8 < k)
outside_says k e = go (le_or_lt 1 k) (le_or_lt k 8)
  where
    go : (1 ≤ k) ⊎ (k < 1) → (k ≤ 8) ⊎ (8 < k) → (k < 1) ⊎ (8 < k)
    go (inr l) b = inl l
    go (inl h) (inr l) = inr l
    go (inl h) (inl l) = absurd (true_not_false e (not_outside_of_inside k (h, l)))

module _ (r : Request) where
  pub ports_named : Named (Fault r) (ports_row r)
  ports_named zero h e = inputs (outside_says r.m e)
  ports_named (suc zero) h e = outputs (outside_says r.n e)
  ports_named (suc (suc i)) h e = absurd (omega arith)

  inputs_named : Named (Fault r) (inputs_above r)
  inputs_named i h e =
      let (used, above) = both_true (input_used r (input i)) (ltb 16_777_216 (input_capacity r (input i))) e in
      input_above_fault (input i) h (ltb-true i r.m used) (ltb-true 16_777_216 _ above)

  outputs_named : Named (Fault r) (outputs_above r)
  outputs_named i h e =
      let (used, above) = both_true (output_used r (output i)) (ltb 16_777_216 (output_capacity r (output i))) e in
      output_above_fault (output i) h (ltb-true i r.n used) (ltb-true 16_777_216 _ above)

  pub capacities_named : Named (Fault r) (capacity_row r)
  capacities_named = named_joined (inputs_above r) (outputs_above r) (Fault r) refl inputs_named outputs_named

  -- a cell is named by its ports
  by_ports : (k c : ℕ) → c < 64 → Fault r k (19 + cell_of (input_of c) (output_of c)) → Fault r k (19 + c)
  by_ports k c h = subst (λ (x : ℕ). Fault r k (19 + x)) (cell_of-ports c h)

  pub demands_named : Named (Fault r) (demand_row r)
  demands_named c h e =
      let (used, above) = both_true (used_cell r c) (ltb 16_777_216 (demand_of r c)) e in
      let (u, v) = below_of_used r (input_of c) (output_of c) (sym (used_cell_of_ports r c h) ∙ used) in
      by_ports 6 c h
      (demand_above_fault (input_of c) (output_of c) (omega arith) (omega arith) u v
      (rw (cell_of-ports c h) (ltb-true 16_777_216 _ above)))

  unused_inputs_named : Named (Fault r) (inputs_not_zero r)
  unused_inputs_named i h e =
      let (unused, above) = both_true (not (input_used r (input i))) (ltb 0 (input_capacity r (input i))) e in
      unused_input (input i) h (ltb-false i r.m (not-true _ unused)) (ltb-true 0 _ above)

  unused_outputs_named : Named (Fault r) (outputs_not_zero r)
  unused_outputs_named i h e =
      let (unused, above) = both_true (not (output_used r (output i))) (ltb 0 (output_capacity r (output i))) e in
      unused_output (output i) h (ltb-false i r.n (not-true _ unused)) (ltb-true 0 _ above)

  unused_cells_named : Named (Fault r) (cells_not_zero r)
  unused_cells_named c h e =
      let (unused, above) = both_true (not (used_cell r c)) (ltb 0 (demand_of r c)) e in
      let past = past_of_unused r (input_of c) (output_of c) (sym (used_cell_of_ports r c h) ∙ not-true (used_cell r c) unused) in
      by_ports 7 c h
      (unused_cell (input_of c) (output_of c) (omega arith) (omega arith) past (rw (cell_of-ports c h) (ltb-true 0 _ above)))

  pub zeros_named : Named (Fault r) (not_zero_row r)
  zeros_named =
      named_joined (inputs_not_zero r) (joined (outputs_not_zero r) (cells_not_zero r)) (Fault r) refl unused_inputs_named
      (named_joined (outputs_not_zero r) (cells_not_zero r) (Fault r) refl unused_outputs_named unused_cells_named)

  pub request_fault : (k p : ℕ) → Gives (request_verdict r) k p → Fault r k p
  request_fault =
      gives_named (request_rows r) (Fault r)
      (each_cons _ ports_named (each_cons _ capacities_named (each_cons _ demands_named (each_cons _ zeros_named (each_nil _)))))
