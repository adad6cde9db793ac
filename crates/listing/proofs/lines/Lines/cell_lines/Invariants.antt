-- The lines of each input so far.
use Rattle.std.proofs.Common.{◌≡◌, ◌++◌}
use Rattle.switch.specs.Cells.{input}
use Rattle.texts.specs.Listing.{input_lines, each}
use Rattle.listing.proofs.lines.Lines.cell_lines.Given as goal

abbrev pub invariant-loop-u : goal.invariant-loop-u
invariant-loop-u l = l.text ≡ l.initial.text ++ each l.u (λ u. input_lines l.self.request.now l.self.plan.now (input u))
