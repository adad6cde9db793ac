-- One more cell is begun, and at the end all are.
use Rattle.std.proofs.Common.{◌≡◌, ◌<◌, refl, rules, arith}
use Rattle.planner.proofs.Walks.{taken_none, taken_next, covers_next, marked_none, marked_next, marked_all}
use Rattle.planner.proofs.Starting.{added_none, added_next, holds_next, unheld_none, unheld_next}
use Rattle.planner.proofs.tables.Tables.start.Goals as goal

pub loop-cell-init : goal.loop-cell-init
loop-cell-init c =
    record {
      unheld = unheld_none _ _;
      marked = marked_none _ _ c.args.self.now.stages (search rules);
      taken = taken_none _ _ _ c.args.self.now.left c.requires.0.long;
      added = added_none _ _ c.requires.2;
    }

pub begin-held-requires : goal.begin-held-requires
begin-held-requires c =
    let low : c.loop-cell.cell < 64 = omega arith in
    let so_far = c.loop-cell.invariant in (
      low,
      (
        covers_next _ _ _ _ c.requires.0 c.loop-cell.cell low so_far.taken,
        holds_next _ c.args.flows.now.demands.now c.args.flows.now.minima.now _ c.requires.1 c.loop-cell.cell low so_far.added,
      ),
    )

pub loop-cell-preserved : goal.loop-cell-preserved
loop-cell-preserved c =
    let so_far = c.loop-cell.invariant in
    let done = c.begin-held.ensures.begun in
    record {
      unheld = rw c.begin-held.ensures.waits (unheld_next _ c.loop-cell.cell _ so_far.unheld);
      marked = rw done.marked (marked_next _ _ _ c.loop-cell.cell (omega arith) so_far.marked _ refl);
      taken = taken_next _ _ _ _ c.loop-cell.cell so_far.taken _ done.taken;
      added = added_next _ _ c.loop-cell.cell so_far.added done.risen;
    }

pub returns : goal.returns
returns c =
    let end : c.loop-cell.cell ≡ 64 = omega arith in
    let all = rw end at c.loop-cell.invariant in
    record { unheld = all.unheld; stages = marked_all _ _ _ all.marked; taken = all.taken; added = all.added }
