-- `turns` meets its contract: every turn is a round of the filling.
use Rattle.std.proofs.Common.{Some, ◌<◌, List, ℕ, ap, sym, ◌∙◌, subst}
use Rattle.fairness.specs.Filling.{Next, State, work}
use Rattle.planner.specs.Engine.{sharing, standing, state_of, state_at, next_event, Found, Modest, Engaged}
use Rattle.planner.specs.declared.level.Level.{Level}
use Rattle.planner.proofs.LastTurn.{base_now, limits_now, levels_now, fair_at_last}
use Rattle.planner.proofs.Turns.{Turn, next_here, room_met, met_turn, unmet_on, happen_ready, happened_turn}
use Rattle.planner.proofs.filling.Filling.turns.Goals as goal
use Rattle.planner.proofs.filling.Filling.turns.Goals.{At-turns}

-- Every turn begins with what holds between two turns.
module _ (c : At-turns) where
  -- the capacities that the filling began with, which the loop does not hold
  abbrev own : List ℕ
  own = c.requires.capacities

  fit : Modest (sharing c.args.flows.now own) c.args.flows.now.heaviest
  fit = c.requires.modest

  engaged : Engaged c.args.flows.now own c.turns.self
  engaged = c.turns.invariant own fit c.requires.engaged

  -- The level that was found is where something happens next: a turn.
  turn : (level : Level) → Found (next_event c.args.flows.now c.turns.self) (Some level) → {capacities : List ℕ} → Modest (sharing c.args.flows.now capacities) c.args.flows.now.heaviest
      → Engaged c.args.flows.now capacities c.turns.self → Turn c.args.flows.now capacities c.turns.self level
  turn level found fits at =
      record { modest = fits; now = at; is = found.0 ∙ next_here at; pos = found.1 }

pub next_level-requires : goal.next_level-requires
next_level-requires c =
    let l = (goal.at.next_level-requires c).At-turns in
    limits_now (fit l) (engaged l)

-- Nothing can happen any more.
pub returns : goal.returns
returns c =
    record {
      each = λ capacities fits at₀.
          let at = c.turns.invariant capacities fits at₀ in (
            base_now fits at,
            levels_now fits at,
            fair_at_last fits at (ap (λ (n : Next). n.parts) (sym (next_here at)) ∙ c.in_default.ensures),
          );
    }

pub stop_some-met-requires : goal.stop_some-met-requires
stop_some-met-requires c =
    let l = (goal.at.stop_some-met-requires c).At-turns in
    let one = turn l c.in-Some.level c.in-Some.ensures (fit l) (engaged l) in
    ((engaged l).light, room_met one)

-- The flows that meet their demands have stopped.
pub turns-smaller : goal.turns-smaller
unfolding work state_of standing
turns-smaller c =
    let l = (goal.at.turns-smaller c).At-turns in
    let one = turn l c.in-Some.level c.in-Some.ensures (fit l) (engaged l) in
    let met = c.stop_some-met.ensures in
    (met_turn one c.stop_some-met.new.self met.light met.swept met.kept (sym met.any_value ∙ c.if-not-met.false)).1

pub turns-preserved : goal.turns-preserved
turns-preserved c capacities fits at =
    let l = (goal.at.turns-preserved c).At-turns in
    let one =
    turn l c.in-Some.level c.in-Some.ensures fits
    (c.turns.invariant capacities fits at) in
    let met = c.stop_some-met.ensures in
    (met_turn one c.stop_some-met.new.self met.light met.swept met.kept (sym met.any_value ∙ c.if-not-met.false)).0

-- None has, and the turn goes on with what the level stands for.
pub happen-requires : goal.happen-requires
happen-requires c =
    let l = (goal.at.happen-requires c).At-turns in
    let one = turn l c.in-Some.level c.in-Some.ensures (fit l) (engaged l) in
    let met = c.stop_some-met.ensures in
    let on = unmet_on one c.stop_some-met.new.self met.light met.swept met.kept (sym met.any_value ∙ c.if-not-met.true) in
    let ready = happen_ready on.0 on.1 in
    (ready.0, ready.1)

-- What the level stands for has happened.
pub turns-smaller-then-not-met : goal.turns-smaller-then-not-met
unfolding work state_of standing
turns-smaller-then-not-met c =
    let l = (goal.at.turns-smaller-then-not-met c).At-turns in
    let one = turn l c.in-Some.level c.in-Some.ensures (fit l) (engaged l) in
    let met = c.stop_some-met.ensures in
    let on = unmet_on one c.stop_some-met.new.self met.light met.swept met.kept (sym met.any_value ∙ c.if-not-met.true) in
    subst
    (λ (s : State). work (sharing c.args.flows.now (own l)) (state_at (sharing c.args.flows.now (own l)) c.happen.new.self)
    < work (sharing c.args.flows.now (own l)) s)
    on.3 (happened_turn on.0 on.1 c.happen.new.self c.happen.ensures).1

pub turns-preserved-then-not-met : goal.turns-preserved-then-not-met
turns-preserved-then-not-met c capacities fits at =
    let l = (goal.at.turns-preserved-then-not-met c).At-turns in
    let one =
    turn l c.in-Some.level c.in-Some.ensures fits
    (c.turns.invariant capacities fits at) in
    let met = c.stop_some-met.ensures in
    let on = unmet_on one c.stop_some-met.new.self met.light met.swept met.kept (sym met.any_value ∙ c.if-not-met.true) in
    (happened_turn on.0 on.1 c.happen.new.self c.happen.ensures).0
