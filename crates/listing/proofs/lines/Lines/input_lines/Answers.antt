-- Where there is room for the lines to all outputs, there is room for the next of them.
use Rattle.switch.specs.Cells.{output}
use Rattle.texts.specs.Listing.{cell_line}
use Rattle.listing.proofs.Pieces.{each_room}
use Rattle.listing.proofs.lines.Lines.input_lines.Goals as goal

pub cell_line-requires-clause-room : goal.cell_line-requires-clause-room
cell_line-requires-clause-room c =
    let a = c.args in
    each_room (λ v. cell_line a.self.now.request.now a.self.now.plan.now a.u (output v)) a.text.now _ c.loop-v.v _ c.loop-v.invariant
    c.loop-v-test.true c.requires.room
