-- A request is accepted exactly when it is within the limits.
use Prim.Native.Nat.{ℕ, ◌≤◌, ◌<◌}
use mathlib.Core.Logic.{◌⊎◌, inl, inr}
use mathlib.Core.Path.{◌≡◌, refl, sym, ◌∙◌, ap, subst}
use mathlib.Core.Bool.{false, true, not, ◌&&◌}
use mathlib.Core.List.Memᴰ
use native.Mathlib.Omega.{arith}
use lib.Dec.{leb, ltb}
use borrow.Author.Tests.{lt-ltb, le-ltb, le-leb, ltb-true, ltb-false, leb-true, not-true, not-false}
use Rattle.laws.proofs.Search.{le_or_lt, both_true}
use Rattle.switch.specs.Cells.{input, output, cell_of, input_of, output_of, input_used, output_used, used, used_cell}
use Rattle.switch.specs.Cells.{input_capacity, output_capacity, demand_of}
use Rattle.switch.specs.Given.{Silent, AllSilent}
use Rattle.switch.specs.RequestRows.{outside, ports_row, inputs_above, outputs_above, capacity_row, demand_row}
use Rattle.switch.specs.RequestRows.{inputs_not_zero, outputs_not_zero, cells_not_zero, not_zero_row, request_rows, request_verdict}
use Rattle.switch.specs.Rows.{joined}
use Rattle.switch.specs.Within.{Within}
use Rattle.switch.specs.declared.request.Request.{Request}
use Rattle.switch.specs.declared.verdict.Verdict.TheVariants.{Accepted}
use Rattle.switch.proofs.Cells.{cell_below, cell_of-ports, below_of_used, used_of_below, unused_of_past, past_of_unused}
use Rattle.switch.proofs.Cells.{used_cell_of_ports, used_cell_of_cell}
use Rattle.switch.proofs.Rows.{silent_nil, silent_cons, silent_joined, silent_first, silent_second, accepted_exactly}
use Rattle.switch.proofs.Tests.{le_of_not_above, not_above_of_le}

inside_of_not_outside : (k : ℕ) → outside k ≡ false → (1 ≤ k) × (k ≤ 8)
inside_of_not_outside k e =
    let both = both_true (leb 1 k) (leb k 8) (not-false (leb 1 k && leb k 8) e) in
    (leb-true 1 k both.0, leb-true k 8 both.1)

pub not_outside_of_inside : (k : ℕ) → (1 ≤ k) × (k ≤ 8) → outside k ≡ false
not_outside_of_inside k (low, high) = simp (le-leb 1 k low, le-leb k 8 high)

zero_of_le : {k : ℕ} → k ≤ 0 → k ≡ 0
zero_of_le h = omega arith

-- From silent rows to the limits.
module _ (r : Request) (all : AllSilent (request_rows r)) where
  ports : Silent (ports_row r)
  ports = all (ports_row r) (Memᴰ.head refl)

  capacities : Silent (capacity_row r)
  capacities = all (capacity_row r) (Memᴰ.tail (Memᴰ.head refl))

  demands : Silent (demand_row r)
  demands = all (demand_row r) (Memᴰ.tail (Memᴰ.tail (Memᴰ.head refl)))

  zeros : Silent (not_zero_row r)
  zeros = all (not_zero_row r) (Memᴰ.tail (Memᴰ.tail (Memᴰ.tail (Memᴰ.head refl))))

  later_zeros : Silent (joined (outputs_not_zero r) (cells_not_zero r))
  later_zeros = silent_second (inputs_not_zero r) (joined (outputs_not_zero r) (cells_not_zero r)) zeros

  inputs : (1 ≤ r.m) × (r.m ≤ 8)
  inputs = inside_of_not_outside r.m (ports 0 (omega arith))

  outputs : (1 ≤ r.n) × (r.n ≤ 8)
  outputs = inside_of_not_outside r.n (ports 1 (omega arith))

  pub within_of_silent : Within r
  within_of_silent =
      record {
        inputs = inputs;
        outputs = outputs;
        input_capacity_within = λ u h.
            le_of_not_above (input_used r u) 16_777_216 (input_capacity r u)
            (silent_first (inputs_above r) (outputs_above r) capacities u.0 (omega (arith, inputs))) (lt-ltb u.0 r.m h);
        output_capacity_within = λ v h.
            le_of_not_above (output_used r v) 16_777_216 (output_capacity r v)
            (silent_second (inputs_above r) (outputs_above r) capacities v.0 (omega (arith, outputs))) (lt-ltb v.0 r.n h);
        demand = λ u v hu hv.
            let lu : u.0 < 8 = omega (arith, inputs) in
            let lv : v.0 < 8 = omega (arith, outputs) in
            le_of_not_above (used_cell r (cell_of u v)) 16_777_216 (demand_of r (cell_of u v))
            (demands (cell_of u v) (cell_below u v lu lv)) (used_cell_of_cell r u v lu lv ∙ used_of_below r u v hu hv);
        unused_input = λ u past h.
            zero_of_le (le_of_not_above (not (input_used r u)) 0 (input_capacity r u)
            (silent_first (inputs_not_zero r) (joined (outputs_not_zero r) (cells_not_zero r)) zeros u.0 h)
            (ap not (le-ltb u.0 r.m past)));
        unused_output = λ v past h.
            zero_of_le (le_of_not_above (not (output_used r v)) 0 (output_capacity r v)
            (silent_first (outputs_not_zero r) (cells_not_zero r) later_zeros v.0 h) (ap not (le-ltb v.0 r.n past)));
        unused_cell = λ u v hu hv past.
            zero_of_le (le_of_not_above (not (used_cell r (cell_of u v))) 0 (demand_of r (cell_of u v))
            (silent_second (outputs_not_zero r) (cells_not_zero r) later_zeros (cell_of u v) (cell_below u v hu hv))
            (ap not (used_cell_of_cell r u v hu hv ∙ unused_of_past r u v past)));
      }

-- From the limits to silent rows.
module _ (r : Request) (w : Within r) where
  ports_silent : Silent (ports_row r)
  ports_silent i h = go (le_or_lt 1 i)
    where
      go : (1 ≤ i) ⊎ (i < 1) → (ports_row r).offends i ≡ false
      go (inr l) = rw (lt-ltb i 1 l) (not_outside_of_inside r.m w.inputs)
      go (inl l) = rw (le-ltb i 1 l) (not_outside_of_inside r.n w.outputs)

  capacities_silent : Silent (capacity_row r)
  capacities_silent =
      silent_joined (inputs_above r) (outputs_above r)
      (λ i h. not_above_of_le (ltb i r.m) 16_777_216 _ (λ e. w.input_capacity_within (input i) (ltb-true i r.m e)))
      (λ i h. not_above_of_le (ltb i r.n) 16_777_216 _ (λ e. w.output_capacity_within (output i) (ltb-true i r.n e)))

  demands_silent : Silent (demand_row r)
  demands_silent c h = not_above_of_le (used_cell r c) 16_777_216 (demand_of r c) (λ e. go (sym (used_cell_of_ports r c h) ∙ e))
    where
      go : used r (input_of c) (output_of c) ≡ true → demand_of r c ≤ 16_777_216
      go e =
          let (below_m, below_n) = below_of_used r (input_of c) (output_of c) e in
          subst (λ (k : ℕ). demand_of r k ≤ 16_777_216) (cell_of-ports c h) (w.demand (input_of c) (output_of c) below_m below_n)

  cells_silent : Silent (cells_not_zero r)
  cells_silent c h =
      not_above_of_le (not (used_cell r c)) 0 (demand_of r c)
      (λ e. go (sym (used_cell_of_ports r c h) ∙ not-true (used_cell r c) e))
    where
      go : used r (input_of c) (output_of c) ≡ false → demand_of r c ≤ 0
      go e =
          let none = w.unused_cell (input_of c) (output_of c) (omega arith) (omega arith) (past_of_unused r (input_of c) (output_of c) e) in
          subst (λ (k : ℕ). demand_of r k ≤ 0) (cell_of-ports c h) (omega arith)

  zeros_silent : Silent (not_zero_row r)
  zeros_silent =
      silent_joined (inputs_not_zero r) (joined (outputs_not_zero r) (cells_not_zero r))
      (λ i h. not_above_of_le (not (ltb i r.m)) 0 (input_capacity r (input i))
      (λ e. omega (arith, w.unused_input (input i) (ltb-false i r.m (not-true (ltb i r.m) e)) h)))
      (silent_joined (outputs_not_zero r) (cells_not_zero r)
      (λ i h. not_above_of_le (not (ltb i r.n)) 0 (output_capacity r (output i))
      (λ e. omega (arith, w.unused_output (output i) (ltb-false i r.n (not-true (ltb i r.n) e)) h)))
      cells_silent)

  pub silent_of_within : AllSilent (request_rows r)
  silent_of_within =
      silent_cons ports_silent (silent_cons capacities_silent (silent_cons demands_silent (silent_cons zeros_silent silent_nil)))

pub within_of_accepted : (r : Request) → request_verdict r ≡ Accepted → Within r
within_of_accepted r e = within_of_silent r ((accepted_exactly (request_rows r)).0 e)

pub accepted_of_within : (r : Request) → Within r → request_verdict r ≡ Accepted
accepted_of_within r w = (accepted_exactly (request_rows r)).1 (silent_of_within r w)
