-- `halt_all` meets its contract: the walk goes over the cells of the limit.
use Rattle.std.proofs.Common.{◌+◌, ◌≡◌, ◌<◌, ◌≤◌, ap, rules, arith}
use Rattle.laws.specs.Lists.{cells}
use Rattle.planner.specs.Areas.{end_of, step_of}
use Rattle.planner.specs.Tables.{Halted}
use Rattle.planner.specs.Engine.{halt_rate, halt_weight, halt_stage}
use Rattle.planner.specs.declared.tables.Tables.{Tables}
use Rattle.planner.proofs.Passing.{few_limits}
use Rattle.planner.proofs.Areas.{OnLine, Walk, walk_of}
use Rattle.planner.proofs.Walks.{covers_next}
use Rattle.planner.proofs.Halting.{SweptTo, Walked, walk_here, walk_starts, walk_goes_on, walk_done}
use Rattle.planner.proofs.tables.Tables.halt_all.Goals as goal
use Rattle.planner.proofs.tables.Tables.halt_all.Goals.{In-loop-cell}

pub loop-cell-init : goal.loop-cell-init
loop-cell-init c =
    rw (ap (λ a. a.first) c.area_of-area.ensures)
    (walk_starts c.args.flows.now.cards c.args.flows.now.weights.now c.args.limit c.args.level.high c.args.self.now
    (walk_of c.args.limit (omega (arith, (few_limits c.args.flows.now.cards).1))) (search rules) c.requires.1.0.long
    c.requires.1.1.long)

-- A cell is visited: the walk comes to it, and its flow's stage is still what it was at the start.
module _ (c : In-loop-cell) where
  steps : Walk c.args.limit
  steps = walk_of c.args.limit (omega (arith, (few_limits c.args.flows.now.cards).1))

  before_end : c.loop-cell.cell < end_of c.args.limit
  before_end = rw (ap (λ a. a.end) c.area_of-area.ensures) at c.loop-cell-test.true

  visited : OnLine c.args.limit c.loop-cell.cell
      × SweptTo c.args.flows.now.cards c.args.flows.now.weights.now c.args.limit c.args.level.high c.args.self.now c.loop-cell.cell c.loop-cell.self
  visited = walk_here c.args.flows.now.cards c.args.flows.now.weights.now c.args.limit c.args.level.high c.args.self.now before_end c.loop-cell.invariant

  low : c.loop-cell.cell < 64
  low = omega (arith, before_end, steps.end_low)

  same : cells c.loop-cell.self.stages c.loop-cell.cell ≡ cells c.args.self.now.stages c.loop-cell.cell
  same = visited.1.marked.after c.loop-cell.cell (omega arith) low

pub halt-requires : goal.halt-requires
halt-requires c =
    let t = (goal.at.halt-requires c).In-loop-cell in (
      low t,
      c.requires.0,
      (steps t).here c.loop-cell.cell (before_end t) (visited t).0,
      (
        rw (same t) (covers_next _ _ _ _ c.requires.1.0 c.loop-cell.cell (low t) (visited t).1.taken),
        rw (same t) (covers_next _ _ _ _ c.requires.1.1 c.loop-cell.cell (low t) (visited t).1.freed),
      ),
    )

pub nonzero_div-cell-step : goal.nonzero_div-cell-step
nonzero_div-cell-step c =
    rw (ap (λ a. a.step) c.area_of-area.ensures)
    (walk_of c.args.limit (omega (arith, (few_limits c.args.flows.now.cards).1))).step_up

-- The walk goes on by the limit's step.
pub loop-cell-smaller : goal.loop-cell-smaller
loop-cell-smaller c =
    let t = (goal.at.loop-cell-smaller c).In-loop-cell in
    rw (ap (λ a. a.step) c.area_of-area.ensures) (omega (arith, low t, (steps t).step_up))

went_on : (c : In-loop-cell) (new : Tables)
    → Halted c.args.flows.now.cards c.loop-cell.cell (halt_stage c.args.limit c.loop-cell.self.stages c.loop-cell.cell)
    (halt_rate c.args.limit c.args.level.high c.args.flows.now.weights.now c.loop-cell.self.stages c.loop-cell.cell)
    (halt_weight c.args.limit c.args.flows.now.weights.now c.loop-cell.self.stages c.loop-cell.cell) c.loop-cell.self new
    → Walked c.args.flows.now.cards c.args.flows.now.weights.now c.args.limit c.args.level.high c.args.self.now (c.loop-cell.cell + step_of c.args.limit) new
went_on c new halted =
    walk_goes_on c.args.flows.now.cards c.args.flows.now.weights.now c.args.limit c.args.level.high c.args.self.now (steps c) c.loop-cell.cell _ (before_end c)
    (visited c).0 (visited c).1 new (rw (same c) at halted)

pub loop-cell-preserved : goal.loop-cell-preserved
loop-cell-preserved c =
    rw (ap (λ a. a.step) c.area_of-area.ensures) (went_on (goal.at.loop-cell-preserved c).In-loop-cell _ c.halt.ensures)

-- It has come to the end.
pub returns-2 : goal.returns-2
returns-2 c =
    let far : c.area_of-area.result.end ≤ c.loop-cell.cell + c.area_of-area.result.step = omega arith in
    walk_done c.args.flows.now.cards c.args.flows.now.weights.now c.args.limit c.args.level.high c.args.self.now (rw c.area_of-area.ensures at far)
    (went_on (goal.at.returns-2 c).In-loop-cell _ c.halt.ensures)

pub returns : goal.returns
returns c =
    walk_done c.args.flows.now.cards c.args.flows.now.weights.now c.args.limit c.args.level.high c.args.self.now
    (rw (ap (λ a. a.end) c.area_of-area.ensures) at c.loop-cell-test.false) c.loop-cell.invariant
