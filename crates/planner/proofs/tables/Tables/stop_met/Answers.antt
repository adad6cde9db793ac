-- `stop_met` meets its contract: the walk visits every cell.
use Rattle.std.proofs.Common.{◌<◌, ◌||◌, refl, sym, ap, ◌∙◌, rules, arith}
use Rattle.fairness.specs.Filling.{some}
use Rattle.fairness.proofs.Some.{some_next}
use Rattle.planner.specs.Engine.{met_at}
use Rattle.planner.proofs.Walks.{swept_none, swept_next, covers_next}
use Rattle.planner.proofs.Meeting.{light_next}
use Rattle.planner.proofs.tables.Tables.stop_met.Goals as goal

pub loop-cell-init : goal.loop-cell-init
unfolding some
loop-cell-init c =
    record {
      any = c.none-met.ensures.0;
      light = record { small = omega (arith, c.none-met.ensures.1); each = λ i h. absurd (omega arith) };
      swept = swept_none _ _ _ _ c.args.self.now (search rules) c.requires.1.0.long c.requires.1.1.long;
    }

-- The flow's stage is still what it was at the start as its cell is visited.
pub meet-met-requires : goal.meet-met-requires
meet-met-requires c =
    let low : c.loop-cell.cell < 64 = omega arith in
    let so_far = c.loop-cell.invariant.swept in
    let same = so_far.marked.after c.loop-cell.cell (omega arith) low in (
      low,
      c.requires.0,
      (
        rw same (covers_next _ _ _ _ c.requires.1.0 c.loop-cell.cell low so_far.taken),
        rw same (covers_next _ _ _ _ c.requires.1.1 c.loop-cell.cell low so_far.freed),
      ),
    )

pub loop-cell-preserved : goal.loop-cell-preserved
loop-cell-preserved c =
    let low : c.loop-cell.cell < 64 = omega arith in
    let before = c.loop-cell.invariant in
    let met = c.meet-met.ensures in
    let test =
    met_at c.args.base c.args.level.high c.args.level.parts c.args.flows.now.demands.now c.args.flows.now.weights.now
    c.args.self.now.stages in
    let same = before.swept.marked.after c.loop-cell.cell (omega arith) low in
    record {
      any = rw same at met.any_value ∙ ap (λ any. test c.loop-cell.cell || any) before.any ∙ sym (some_next c.loop-cell.cell test);
      light = light_next c.loop-cell.cell _ _ _ _ _ _ before.light met.halted.marked met.lightest;
      swept = swept_next _ _ _ _ _ _ c.loop-cell.cell low before.swept (rw same at met.halted);
    }
