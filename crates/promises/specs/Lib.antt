-- What the user was promised: one file for each demand, one for the drawn examples, one for what the contracts settle. The theorems
-- `demand1_kept`, `demand2_kept`, `demand3_kept`, `drawn_shown` and `calls_settled` in `proofs/` say that all of it holds.
--
-- Document 01, section by section, and where its words stand. `crate/File` is a file of that crate's `specs/`.
--
--   What is built                 `planned` (switch/Answer), `judged` (judging/PlanRows), `check_verdict` (formats/PlanFile),
--                                 `request_read`, `request_written` (formats/RequestFile), `plan_written` (formats/PlanFile), `chosen` and
--                                 `chosen_at` (formats/Chosen), `listed` (texts/Listing), for C `code_of` (codes/Code); that the calls
--                                 answer by them: `Calls`
--   Numbers                       `Within` (switch/Within), `PlanWithin` (judging/PlanWithin), `cell_of`, `used`, `used_cell`
--                                 (switch/Cells); accepted exactly: `Demand1`, field `planned_exactly`; the base: `base_fits`
--   Fairness                      `Feasible`, `Bounded`, `Fair`, `InputBottleneck`, `OutputBottleneck` (switch/Fairness), `reason_of`
--                                 (switch/Reason); what was to be shown: `Demand2`, fields `settled`, `fair`, `alone`; the least
--                                 base and the reasons: `least`, `reasons`; water-filling: `plan_of` (switch/Planned)
--   Blocks                        `word_at` (words/Words), `check`, `sealed` (words/Check), `Holds` (formats/RequestFile), `HoldsPlan`
--                                 (formats/PlanFile); one changed word is seen: `Demand2`, fields `request_damaged`, `plan_damaged`
--   Refusal numbers               `number_of` (switch/Numbering), `request_rows` (switch/RequestRows), `judge_rows` (judging/PlanRows),
--                                 `request_file_rows` (formats/RequestFile), `plan_file_rows`, `WellFormed` (formats/PlanFile), `write_rows`
--                                 (formats/Writing); given exactly when, and where: `Demand1`, fields `planning` to `exporting`; what
--                                 is handed back and left: its fields from `request_not_written` on; the chooser: `Demand2`, `choosing`
--   The listing program           `line`, `first_line`, `cell_lines`, `last_line`, `refused_text`, `listing_of` (texts/Listing), `decimal`
--                                 (texts/Decimal); shown: `Demand2`, fields `listed` and `listing`; refused: `Demand1`, fields
--                                 `not_listed` and `refusal_listed`; the worked listing is P7 in `DrawnTable`
--   Drawn examples                `DrawnTable`
--   Four ways it has gone wrong   P10 and P1 in `DrawnTable`; each is an edit that the check refuses (docs/PROMISES.md)
--   What the promises settle      `Settles` (Contract), `Calls`; demand 3 is stated over the plan of demand 2: `Demand3`
--   Use these forms               in code: `switch` (src/plan.rt, verdict.rt, port.rt), `blocks` (src/check.rt), `checker` (src/rates.rt),
--                                 `files` (src/choose.rt), `listing` (src/lines.rt); docs/DECISIONS.md says which form is where
pub mod Demand1
pub mod Demand2
pub mod Demand3
pub mod Drawn
pub mod Contract
pub mod Calls
