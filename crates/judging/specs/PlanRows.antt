-- The rows of document 01's table 'Refusal numbers' that a plan meets which is given with its request: 7 for its unused cells,
-- 8, and 10 to 15; and with the request's own, all rows of such a pair.
use Rattle.std.specs.Prelude.{ℕ, ◌+◌, ◌*◌, Bool, cond, not, ◌&&◌, ◌||◌, List, [], ◌∷◌, eqb, leb, ltb}
use Rattle.switch.specs.Cells.{input, output, cell_of, input_of, output_of, input_used, output_used, used_cell}
use Rattle.switch.specs.Cells.{input_capacity, output_capacity, demand_of}
use Rattle.switch.specs.Rates.{flow, rates_of, input_total, output_total}
use Rattle.switch.specs.Reason.{input_holds, output_holds, flow_reason}
use Rattle.switch.specs.RequestRows.{above, ports_row, capacity_row, demand_row, not_zero_row}
use Rattle.switch.specs.Rows.{Row, joined, verdict_of}
use Rattle.switch.specs.declared.plan.Plan.{Plan}
use Rattle.switch.specs.declared.port.Input.{Input}
use Rattle.switch.specs.declared.port.Output.{Output}
use Rattle.switch.specs.declared.request.Request.{Request}
use Rattle.switch.specs.declared.verdict.Cause.{Cause}
use Rattle.switch.specs.declared.verdict.Cause.TheVariants.{NotZero, Base, ReasonRange, AboveDemand, InputOver, OutputOver, NoBottleneck, WrongReason}
use Rattle.switch.specs.declared.verdict.Verdict.{Verdict}
use Rattle.judging.specs.PlanWithin.{said_reason}
use Rattle.judging.specs.Places.{low_word, low_of, reason_word}

-- The plan of these numbers: what a walk that is lent only some of the tables says, it says of such a plan.
-- Stands because docs/PORT-NAMES.md names it; no contract cites it today.
abbrev pub plan_with : ℕ → List ℕ → List ℕ → Plan
plan_with b numerators reasons = record { base = b; numerators = numerators; reasons = reasons }

-- The numerator of a cell.
abbrev pub numerator_of : Plan → ℕ → ℕ
numerator_of p c = (rates_of p).numerator c

-- Cell k of a half of the plan: the first half is block 1, and the second is block 2.
abbrev pub cell_in : ℕ → ℕ → ℕ
cell_in half k = 32 * half + k

-- Row 7, for the numerators of a half: one of an unused cell has to be 0. Its place is the word of it that is not, the low one first.
abbrev pub first_word : ℕ → ℕ → ℕ
first_word c x = low_word c + cond (eqb (low_of x) 0) 1 0

abbrev pub unused_rates : Request → Plan → ℕ → Row
unused_rates r p half =
    record {
      cause = NotZero;
      size = 32;
      offends = λ k. above (not (used_cell r (cell_in half k))) 0 (numerator_of p (cell_in half k));
      place = λ k. first_word (cell_in half k) (numerator_of p (cell_in half k));
    }

-- And for its reasons, which come after them.
abbrev pub unused_reasons : Request → Plan → ℕ → Row
unused_reasons r p half =
    record {
      cause = NotZero;
      size = 32;
      offends = λ k. above (not (used_cell r (cell_in half k))) 0 (said_reason p (cell_in half k));
      place = λ k. reason_word (cell_in half k);
    }

abbrev pub half_not_zero : Request → Plan → ℕ → Row
half_not_zero r p half = joined (unused_rates r p half) (unused_reasons r p half)

-- Row 7 of a request with a plan, in file order. Values have no spare words.
abbrev pub pair_not_zero_row : Request → Plan → Row
pair_not_zero_row r p = joined (not_zero_row r) (joined (half_not_zero r p 0) (half_not_zero r p 1))

-- Row 8: the base, whose first word in the file is 129.
abbrev pub base_row : ℕ → Row
base_row b =
    record { cause = Base; size = 1; offends = λ i. not (leb 1 b && leb b 4_294_967_296); place = λ i. 129 }

-- A row about flows: its candidates are the cells, and a cell offends if it is used and its flow does.
abbrev pub flow_row : Cause → Request → (Input → Output → Bool) → Row
flow_row cause r test =
    record {
      cause = cause;
      size = 64;
      offends = λ c. used_cell r c && test (input_of c) (output_of c);
      place = λ c. c;
    }

-- Row 10: a reason that is none of 0, 1 and 2.
abbrev pub no_reason : Plan → Input → Output → Bool
no_reason p u v = ltb 2 (said_reason p (cell_of u v))

abbrev pub reason_range_row : Request → Plan → Row
reason_range_row r p = flow_row ReasonRange r (no_reason p)

-- Row 11: a rate above its demand.
abbrev pub above_demand : Request → Plan → Input → Output → Bool
above_demand r p u v = ltb (demand_of r (cell_of u v) * p.base) (flow (rates_of p) u v)

abbrev pub above_demand_row : Request → Plan → Row
above_demand_row r p = flow_row AboveDemand r (above_demand r p)

-- Rows 12 and 13: a port whose rates add up to more than its capacity.
abbrev pub input_over : Request → Plan → Input → Bool
input_over r p u = input_used r u && ltb (input_capacity r u * p.base) (input_total r (rates_of p) u)

abbrev pub output_over : Request → Plan → Output → Bool
output_over r p v = output_used r v && ltb (output_capacity r v * p.base) (output_total r (rates_of p) v)

abbrev pub input_over_row : Request → Plan → Row
input_over_row r p = record { cause = InputOver; size = 8; offends = λ i. input_over r p (input i); place = λ i. i }

abbrev pub output_over_row : Request → Plan → Row
output_over_row r p = record { cause = OutputOver; size = 8; offends = λ i. output_over r p (output i); place = λ i. i }

-- Row 14: a rate below its demand, and neither port a bottleneck.
abbrev pub free : Request → Plan → Input → Output → Bool
free r p u v =
    ltb (flow (rates_of p) u v) (demand_of r (cell_of u v) * p.base)
    && not (input_holds r (rates_of p) u v || output_holds r (rates_of p) u v)

abbrev pub no_bottleneck_row : Request → Plan → Row
no_bottleneck_row r p = flow_row NoBottleneck r (free r p)

-- Row 15: a reason that is not the one defined.
abbrev pub wrong_reason : Request → Plan → Input → Output → Bool
wrong_reason r p u v = not (eqb (said_reason p (cell_of u v)) (flow_reason r (rates_of p) u v))

abbrev pub wrong_reason_row : Request → Plan → Row
wrong_reason_row r p = flow_row WrongReason r (wrong_reason r p)

-- The rows that speak of rates and reasons, in the table's order.
abbrev pub fair_rows : Request → Plan → List Row
fair_rows r p =
    above_demand_row r p ∷ input_over_row r p ∷ output_over_row r p ∷ no_bottleneck_row r p ∷ wrong_reason_row r p ∷ []

abbrev pub rate_rows : Request → Plan → List Row
rate_rows r p = reason_range_row r p ∷ fair_rows r p

-- All rows that a request with a plan meets.
abbrev pub judge_rows : Request → Plan → List Row
judge_rows r p =
    ports_row r ∷ capacity_row r ∷ demand_row r ∷ pair_not_zero_row r p ∷ base_row p.base ∷ rate_rows r p

abbrev pub judged : Request → Plan → Verdict
judged r p = verdict_of (judge_rows r p)
