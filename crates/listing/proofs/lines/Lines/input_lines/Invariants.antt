-- The lines to each output so far.
use Rattle.std.proofs.Common.{◌≡◌, ◌++◌}
use Rattle.switch.specs.Cells.{output}
use Rattle.texts.specs.Listing.{cell_line, each}
use Rattle.listing.proofs.lines.Lines.input_lines.Given as goal

abbrev pub invariant-loop-v : goal.invariant-loop-v
invariant-loop-v l = l.text ≡ l.initial.text ++ each l.v (λ v. cell_line l.self.request.now l.self.plan.now l.u (output v))
