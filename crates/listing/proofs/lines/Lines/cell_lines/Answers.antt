-- Where there is room for the lines of all inputs, there is room for those of the next.
use Rattle.switch.specs.Cells.{input}
use Rattle.texts.specs.Listing.{input_lines}
use Rattle.listing.proofs.Pieces.{each_room}
use Rattle.listing.proofs.lines.Lines.cell_lines.Goals as goal

pub input_lines-requires-clause-room : goal.input_lines-requires-clause-room
input_lines-requires-clause-room c =
    let a = c.args in
    each_room (λ u. input_lines a.self.now.request.now a.self.now.plan.now (input u)) a.text.now _ c.loop-u.u _ c.loop-u.invariant
    c.loop-u-test.true c.requires
