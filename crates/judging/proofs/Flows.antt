-- Rows about flows: a test of every cell says what a test of the flows says, if it passes over what is unused.
use Prim.Native.Nat.{ℕ, ◌<◌}
use mathlib.Core.Bool.{Bool, false, ◌&&◌}
use mathlib.Core.Path.{◌≡◌, sym, ◌∙◌, ap₂}
use Rattle.switch.specs.Cells.{cell_of, input_of, output_of, used_cell}
use Rattle.switch.specs.Fairness.{Used}
use Rattle.switch.specs.Given.{Silent}
use Rattle.switch.specs.Rows.{row_verdict}
use Rattle.switch.specs.Within.{Within}
use Rattle.switch.specs.declared.port.Input.{Input}
use Rattle.switch.specs.declared.port.Output.{Output}
use Rattle.switch.specs.declared.request.Request.{Request}
use Rattle.switch.specs.declared.verdict.Cause.{Cause}
use Rattle.switch.proofs.Cells.{cell_below, input_of_cell, output_of_cell, below_of_used, unused_of_past, used_cell_of_ports, used_cell_of_cell}
use Rattle.switch.proofs.Search.{same_row}
use Rattle.switch.proofs.Sharing.{by_cell, below_eight, used_flow, Past}
use Rattle.switch.proofs.Tests.{second_false, and_false_of}
use Rattle.judging.specs.PlanRows.{flow_row}

module _ (r : Request) (w : Within r) (cause : Cause) (test : Input → Output → Bool) where
  -- The row's test of a cell is the test of its ports.
  tested : (u : Input) (v : Output) → u.0 < 8 → v.0 < 8 → test (input_of (cell_of u v)) (output_of (cell_of u v)) ≡ test u v
  tested u v hu hv = ap₂ test (input_of_cell u v hu hv) (output_of_cell u v hv)

  -- A row of flows, told by another test of cells.
  pub as_flow_row : (f : ℕ → Bool) → ((u : Input) (v : Output) → Used r u v → f (cell_of u v) ≡ test u v)
      → ((u : Input) (v : Output) → u.0 < 8 → v.0 < 8 → Past r u v → f (cell_of u v) ≡ false)
      → row_verdict (record { cause = cause; size = 64; offends = f; place = λ c. c }) ≡ row_verdict (flow_row cause r test)
  as_flow_row f flows rest =
      same_row cause 64 (λ c. c) f _
      (by_cell r (λ c. f c ≡ (used_cell r c && test (input_of c) (output_of c)))
      (λ u v is.
      let low = below_eight r w u v is in
      flows u v is ∙ sym (rw (used_flow r w u v is) (tested u v low.0 low.1)))
      (λ u v hu hv past.
      rest u v hu hv past ∙ sym (rw (used_cell_of_cell r u v hu hv ∙ unused_of_past r u v past))))

  -- It has no offender exactly when no flow is one.
  pub silent_flows : Silent (flow_row cause r test) → (u : Input) (v : Output) → Used r u v → test u v ≡ false
  silent_flows s u v is =
      let low = below_eight r w u v is in
      sym (tested u v low.0 low.1)
      ∙ second_false _ _ (s (cell_of u v) (cell_below u v low.0 low.1)) (used_flow r w u v is)

  pub flows_silent : ((u : Input) (v : Output) → Used r u v → test u v ≡ false) → Silent (flow_row cause r test)
  flows_silent none c h =
      and_false_of (used_cell r c) _
      (λ e.
      let both = below_of_used r (input_of c) (output_of c) (sym (used_cell_of_ports r c h) ∙ e) in
      none (input_of c) (output_of c) (record { input = both.0; output = both.1 }))
