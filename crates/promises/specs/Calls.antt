-- What the promises settle, call by call: every public function of every library for Rattle, with its own contract as the prover
-- reads it off the source (`Asked` is what its `requires` asks of a caller, `Post` what its `ensures` allows), what a caller sees of an
-- outcome, and the definition that this is. The library for C, on which no crate can stand, says of each export what `export` says of
-- its call (tests/calls holds the two beside each other). Arguments and final states have one part for each parameter, in their order,
-- and `now` is what a reference refers to. Of a slice that is handed back a caller sees its bytes and its place in memory, and no more.
-- Where a call takes a type T, what is said holds of every T that refers to nothing (`T.lives`), as numbers do; for other types it would
-- also ask that what they refer to lives as long as the call.
use Rattle.std.specs.Prelude.{◌≡◌, ◌*◌, [], get_or, ⊤, Some}
use Rattle.std.specs.Fmt.{DisplaysOnOk}
use Rattle.std.specs.declared.ops.ControlFlow.{ControlFlow}
use Rattle.std.specs.declared.ops.ControlFlow.TheVariants.{Continue, Break}
use Rattle.switch.specs.declared.verdict.Refusal.{Refusal}
use Rattle.switch.specs.declared.verdict.Verdict.{Verdict}
use Rattle.switch.specs.declared.verdict.Verdict.TheVariants.{Accepted, Refused}
use Rattle.fairness.specs.Divisor.{gcd, gcd_of}
use Rattle.words.specs.Words.{word_at, with_word}
use Rattle.words.specs.Check.{start_of, check, word_in, sealed, sealed_in}
use Rattle.switch.specs.Cells.{input, output, cell_of, input_of, output_of, input_limit, output_limit, demand_of}
use Rattle.switch.specs.Halves.{half_number}
use Rattle.switch.specs.Numbering.{number_of}
use Rattle.switch.specs.RequestRows.{request_verdict}
use Rattle.switch.specs.Rows.{refusal, refused_by, or_else, row_verdict}
use Rattle.switch.specs.Tables.{used_end}
use Rattle.switch.specs.Told.{refusal_told, verdict_told}
use Rattle.switch.specs.Values.{zero_request, empty_plan}
use Rattle.worked.specs.Port.{port_of, input_port, output_port}
use Rattle.worked.specs.Reason.{holds, reason_from, reasons_at}
use Rattle.worked.specs.Reduced.{reduced_base, reduced_numerators}
use Rattle.worked.specs.Saturated.{capped}
use Rattle.switch.specs.Answer.{planned}
use Rattle.judging.specs.PlanRows.{half_not_zero, base_row, judged}
use Rattle.worked.specs.Worked.{level_of, reason_by, rates_worked}
use Rattle.formats.specs.Chosen.{chosen, chosen_at}
use Rattle.formats.specs.PlanFile.{check_verdict, plan_written}
use Rattle.formats.specs.RequestFile.{read_verdict, request_read, request_written}
use Rattle.formats.specs.Writing.{write_verdict}
use Rattle.texts.specs.Listing.{listed, listed_in}
use Rattle.codes.specs.Code.{code_of, plan_verdict, plan_laid, choice_of}
use Rattle.promises.specs.Contract.{Settles, Tells}
use denote.RattleType.{RattleType}
use Rattle.blocks.proofs.word.word.Reads as Word
use Rattle.blocks.proofs.word.put.Reads as Put
use Rattle.blocks.proofs.check.start_of.Reads as StartOf
use Rattle.blocks.proofs.check.check.Reads as BlockCheck
use Rattle.blocks.proofs.check.sealed.Reads as Sealed
use Rattle.blocks.proofs.check.seal.Reads as Seal
use Rattle.switch.proofs.entry.entry.Reads as Entry
use Rattle.switch.proofs.port.cell.Reads as Cell
use Rattle.switch.proofs.port.Input.of.Reads as InputOf
use Rattle.switch.proofs.port.Output.of.Reads as OutputOf
use Rattle.switch.proofs.port.used_end.Reads as UsedEnd
use Rattle.switch.proofs.port.Input.limit.Reads as InputLimit
use Rattle.switch.proofs.port.Output.limit.Reads as OutputLimit
use Rattle.switch.proofs.port.InputEnd.numbered.Reads as InputNumbered
use Rattle.switch.proofs.port.InputEnd.flow.Reads as InputFlow
use Rattle.switch.proofs.port.OutputEnd.numbered.Reads as OutputNumbered
use Rattle.switch.proofs.port.OutputEnd.flow.Reads as OutputFlow
use Rattle.switch.proofs.request.Request.zero.Reads as Zero
use Rattle.switch.proofs.request.Request.demand.Reads as Demand
use Rattle.switch.proofs.plan.Half.number.Reads as HalfNumber
use Rattle.switch.proofs.plan.Plan.empty.Reads as Empty
use Rattle.switch.proofs.verdict.refused.Reads as Refused
use Rattle.switch.proofs.verdict.Verdict.or_else.Reads as OrElse
use Rattle.switch.proofs.verdict.Cause.number.Reads as Number
use Rattle.switch.proofs.verdict.VerdictTry.branch.Reads as VerdictBranch
use Rattle.switch.proofs.verdict.VerdictTry.from_output.Reads as VerdictFromOutput
use Rattle.switch.proofs.verdict.VerdictFromResidualRefusal.from_residual.Reads as VerdictFromResidual
use Rattle.switch.proofs.verdict.RefusalDisplay.fmt.Reads as RefusalFmt
use Rattle.switch.proofs.verdict.VerdictDisplay.fmt.Reads as VerdictFmt
use Rattle.requests.proofs.check.check.Reads as RequestCheck
use Rattle.shares.proofs.arithmetic.times.Reads as Times
use Rattle.shares.proofs.port.port.Reads as Port
use Rattle.shares.proofs.port.input_port.Reads as InputPort
use Rattle.shares.proofs.port.output_port.Reads as OutputPort
use Rattle.shares.proofs.reason.holds.Reads as Holds
use Rattle.shares.proofs.reason.reason.Reads as Reason
use Rattle.shares.proofs.reason.level.Reads as Level
use Rattle.shares.proofs.reason.reason_by.Reads as ReasonBy
use Rattle.shares.proofs.reason.reasons.Reads as Reasons
use Rattle.shares.proofs.divisor.divisor.Reads as Divisor
use Rattle.shares.proofs.divisor.common_divisor.Reads as CommonDivisor
use Rattle.shares.proofs.divisor.reduce.Reads as Reduce
use Rattle.planner.proofs.plan.plan.Reads as Plan
use Rattle.checker.proofs.judge.judge.Reads as Judge
use Rattle.checker.proofs.format.unused.Reads as Unused
use Rattle.checker.proofs.format.base_row.Reads as BaseRow
use Rattle.checker.proofs.rates.rates.Reads as Rates
use Rattle.files.proofs.request.read_request.Reads as ReadRequest
use Rattle.files.proofs.request.write_request.Reads as WriteRequest
use Rattle.files.proofs.plan.write_plan.Reads as WritePlan
use Rattle.files.proofs.check.check.Reads as FileCheck
use Rattle.files.proofs.choose.choose.Reads as Choose
use Rattle.listing.proofs.list.list.Reads as List
use Rattle.export.proofs.calls.rate_plan_read.Reads as PlanRead
use Rattle.export.proofs.calls.rate_plan_write.Reads as PlanWrite
use Rattle.export.proofs.calls.rate_plan_check.Reads as PlanCheck
use Rattle.export.proofs.calls.rate_plan_choose.Reads as PlanChoose
use Rattle.export.proofs.calls.rate_plan_list.Reads as PlanList

-- What `?` makes of a verdict: it goes on, or leaves with the refusal.
abbrev pub heard : Verdict → ControlFlow Refusal ⊤
heard Accepted = Continue tt
heard (Refused reason) = Break reason

pub record BlocksCalls : Type 0 where
  pub word : Settles Word.Asked Word.Post (λ κ z e. z) (λ κ (file, (i, _)). word_at file.now i)
  pub put : Settles Put.Asked Put.Post (λ κ z (file, _). file.now) (λ κ (file, (i, (w, _))). with_word file.now i w)
  pub start_of : Settles StartOf.Asked StartOf.Post (λ κ z e. z) (λ κ (block, _). start_of block)
  pub check : Settles BlockCheck.Asked BlockCheck.Post (λ κ z e. z)
      (λ κ (start, (file, (block, _))). check start (word_in file.now block))
  pub sealed : Settles Sealed.Asked Sealed.Post (λ κ z e. z)
      (λ κ (start, (file, (block, _))). sealed start (word_in file.now block))
  pub seal : Settles Seal.Asked Seal.Post (λ κ z (_, (file, _)). file.now)
      (λ κ (start, (file, (block, _))). sealed_in start file.now block)

pub record SwitchCalls : Type 2 where
  pub entry : (T : RattleType) (laws : _) (copy : _) (clone : _) (dict : _) → T.lives ≡ []
      → Settles (Entry.Asked T laws copy clone dict) (Entry.Post T laws copy clone dict) (λ κ z e. z)
      (λ κ (table, (i, (none, _))). get_or table.now i none)
  pub cell : Settles Cell.Asked Cell.Post (λ κ z e. z) (λ κ (u, (v, _)). cell_of u v)
  pub input_of : Settles InputOf.Asked InputOf.Post (λ κ z e. z) (λ κ (cell, _). input_of cell)
  pub output_of : Settles OutputOf.Asked OutputOf.Post (λ κ z e. z) (λ κ (cell, _). output_of cell)
  pub used_end : Settles UsedEnd.Asked UsedEnd.Post (λ κ z e. z) (λ κ (m, (n, (u, _))). used_end m n u.0)
  pub input_limit : Settles InputLimit.Asked InputLimit.Post (λ κ z e. z) (λ κ (u, _). input_limit u)
  pub output_limit : Settles OutputLimit.Asked OutputLimit.Post (λ κ z e. z) (λ κ (v, _). output_limit v)
  pub zero : Settles Zero.Asked Zero.Post (λ κ z e. z) (λ κ a. zero_request)
  pub demand : Settles Demand.Asked Demand.Post (λ κ z e. z) (λ κ (request, (cell, _)). demand_of request.now cell)
  pub input_numbered : Settles InputNumbered.Asked InputNumbered.Post (λ κ z e. z) (λ κ (k, _). input k)
  pub input_flow : Settles InputFlow.Asked InputFlow.Post (λ κ z e. z) (λ κ (u, (k, _)). cell_of u (output k))
  pub output_numbered : Settles OutputNumbered.Asked OutputNumbered.Post (λ κ z e. z) (λ κ (k, _). output k)
  pub output_flow : Settles OutputFlow.Asked OutputFlow.Post (λ κ z e. z) (λ κ (v, (k, _)). cell_of (input k) v)
  pub half_number : Settles HalfNumber.Asked HalfNumber.Post (λ κ z e. z) (λ κ (half, _). half_number half)
  pub empty : Settles Empty.Asked Empty.Post (λ κ z e. z) (λ κ a. empty_plan)
  pub refused : Settles Refused.Asked Refused.Post (λ κ z e. z) (λ κ (cause, (place, _)). refusal cause place)
  pub or_else : Settles OrElse.Asked OrElse.Post (λ κ z e. z) (λ κ (first, (next, _)). or_else first next)
  pub number : Settles Number.Asked Number.Post (λ κ z e. z) (λ κ (cause, _). number_of cause)
  pub branch : Settles VerdictBranch.Asked VerdictBranch.Post (λ κ z e. z) (λ κ (verdict, _). heard verdict)
  pub from_output : Settles VerdictFromOutput.Asked VerdictFromOutput.Post (λ κ z e. z) (λ κ a. Accepted)
  pub from_residual : Settles VerdictFromResidual.Asked VerdictFromResidual.Post (λ κ z e. z) (λ κ (reason, _). refused_by reason)
  pub refusal_fmt : (W : RattleType) (laws : _) (writes : _) (dict : _) → W.lives ≡ []
      → Tells (RefusalFmt.Asked W laws writes dict) (RefusalFmt.Post W laws writes dict)
      (λ κ (refusal, (f, _)) z (_, (g, _)). DisplaysOnOk writes.write_str_gives f.now z (Some (refusal_told refusal.now)) g.now)
  pub verdict_fmt : (W : RattleType) (laws : _) (writes : _) (dict : _) → W.lives ≡ []
      → Tells (VerdictFmt.Asked W laws writes dict) (VerdictFmt.Post W laws writes dict)
      (λ κ (verdict, (f, _)) z (_, (g, _)). DisplaysOnOk writes.write_str_gives f.now z (Some (verdict_told verdict.now)) g.now)

pub record RequestsCalls : Type 0 where
  pub check : Settles RequestCheck.Asked RequestCheck.Post (λ κ z e. z) (λ κ (request, _). request_verdict request)

pub record SharesCalls : Type 2 where
  pub times : Settles Times.Asked Times.Post (λ κ z e. z) (λ κ (x, (y, _)). capped (x * y))
  pub port : (P : RattleType) (laws : _) (copy : _) (end : _) (ends : _) (clone : _) (dict : _) → P.lives ≡ []
      → Settles (Port.Asked P laws copy end ends clone dict) (Port.Post P laws copy end ends clone dict) (λ κ z e. z)
      (λ κ (count, (xs, (p, _))). port_of count (λ k. get_or xs.now (end.flow p k) 0))
  pub input_port : Settles InputPort.Asked InputPort.Post (λ κ z e. z) (λ κ (n, (xs, (u, _))). input_port n xs.now u)
  pub output_port : Settles OutputPort.Asked OutputPort.Post (λ κ z e. z) (λ κ (m, (xs, (v, _))). output_port m xs.now v)
  pub holds : Settles Holds.Asked Holds.Post (λ κ z e. z)
      (λ κ (port, (capacity, (d, (b, (x, _))))). holds port capacity d b x)
  pub reason : Settles Reason.Asked Reason.Post (λ κ z e. z)
      (λ κ (port, (capacity, (d, (b, (x, _))))). reason_from port capacity d b x)
  pub level : Settles Level.Asked Level.Post (λ κ z e. z) (λ κ (full, (port, _)). level_of full port.sum port.most)
  pub reason_by : Settles ReasonBy.Asked ReasonBy.Post (λ κ z e. z) (λ κ (asked, (entering, (x, _))). reason_by asked entering x)
  pub reasons : Settles Reasons.Asked Reasons.Post (λ κ z e. z)
      (λ κ (m, (n, (inputs, (ds, (b, (xs, _)))))). reasons_at m n inputs.now ds.now b xs.now)
  pub divisor : Settles Divisor.Asked Divisor.Post (λ κ z e. z) (λ κ (x, (y, _)). gcd x y)
  pub common_divisor : Settles CommonDivisor.Asked CommonDivisor.Post (λ κ z e. z) (λ κ (b, (xs, _)). gcd_of b xs.now)
  pub reduce : Settles Reduce.Asked Reduce.Post (λ κ z e. z) (λ κ (b, (xs, _)). reduced_base b xs.now)
  pub reduce_numerators : Settles Reduce.Asked Reduce.Post (λ κ z (_, (xs, _)). xs.now)
      (λ κ (b, (xs, _)). reduced_numerators b xs.now)

pub record PlannerCalls : Type 0 where
  pub plan : Settles Plan.Asked Plan.Post (λ κ z e. z) (λ κ (request, _). planned request)

pub record CheckerCalls : Type 0 where
  pub judge : Settles Judge.Asked Judge.Post (λ κ z e. z) (λ κ (request, (plan, _)). judged request plan)
  pub unused : Settles Unused.Asked Unused.Post (λ κ z e. z)
      (λ κ (request, (plan, (half, _))). row_verdict (half_not_zero request.now plan.now (half_number half)))
  pub base_row : Settles BaseRow.Asked BaseRow.Post (λ κ z e. z) (λ κ (base, _). row_verdict (base_row base))
  pub rates : Settles Rates.Asked Rates.Post (λ κ z e. z) (λ κ (request, (plan, _)). rates_worked request.now plan.now)

pub record FilesCalls : Type 0 where
  pub read_request : Settles ReadRequest.Asked ReadRequest.Post (λ κ z e. z) (λ κ (file, _). request_read file.now)
  pub write_request : Settles WriteRequest.Asked WriteRequest.Post (λ κ z e. z)
      (λ κ (request, (buffer, _)). write_verdict 512 request buffer.now)
  pub write_request_buffer : Settles WriteRequest.Asked WriteRequest.Post (λ κ z (_, (buffer, _)). buffer.now)
      (λ κ (request, (buffer, _)). request_written request buffer.now)
  pub write_plan : Settles WritePlan.Asked WritePlan.Post (λ κ z e. z)
      (λ κ (request, (buffer, _)). write_verdict 1536 request buffer.now)
  pub write_plan_buffer : Settles WritePlan.Asked WritePlan.Post (λ κ z (_, (buffer, _)). buffer.now)
      (λ κ (request, (buffer, _)). plan_written request buffer.now)
  pub check : Settles FileCheck.Asked FileCheck.Post (λ κ z e. z) (λ κ (file, _). check_verdict file.now)
  pub choose : Settles Choose.Asked Choose.Post (λ κ z e. z.now)
      (λ κ (proposed, (running, _)). chosen proposed.now running.now)
  pub choose_place : Settles Choose.Asked Choose.Post (λ κ z e. z.ref_ptr)
      (λ κ (proposed, (running, _)). chosen_at proposed.now running.now proposed.ref_ptr running.ref_ptr)

pub record ListingCalls : Type 0 where
  pub list : Settles List.Asked List.Post (λ κ z e. z) (λ κ (file, (text, _)). listed file.now text.now)
  pub list_text : Settles List.Asked List.Post (λ κ z (_, (text, _)). text.now) (λ κ (file, (text, _)). listed_in file.now text.now)

pub record ExportCalls : Type 0 where
  pub read : Settles PlanRead.Asked PlanRead.Post (λ κ z e. z) (λ κ (request, _). code_of (read_verdict request.now))
  pub write : Settles PlanWrite.Asked PlanWrite.Post (λ κ z e. z)
      (λ κ (request, (plan, _)). code_of (plan_verdict request.now plan.now))
  pub write_buffer : Settles PlanWrite.Asked PlanWrite.Post (λ κ z (_, (plan, _)). plan.now)
      (λ κ (request, (plan, _)). plan_laid request.now plan.now)
  pub check : Settles PlanCheck.Asked PlanCheck.Post (λ κ z e. z) (λ κ (plan, _). code_of (check_verdict plan.now))
  pub choose : Settles PlanChoose.Asked PlanChoose.Post (λ κ z e. z)
      (λ κ (proposed, (running, _)). choice_of proposed.now running.now)
  pub list : Settles PlanList.Asked PlanList.Post (λ κ z e. z) (λ κ (request, (text, _)). (listed request.now text.now).length)
  pub list_text : Settles PlanList.Asked PlanList.Post (λ κ z (_, (text, _)). text.now)
      (λ κ (request, (text, _)). listed_in request.now text.now)

pub record Calls : Type 2 where
  pub blocks : BlocksCalls
  pub switch : SwitchCalls
  pub requests : RequestsCalls
  pub shares : SharesCalls
  pub planner : PlannerCalls
  pub checker : CheckerCalls
  pub files : FilesCalls
  pub listing : ListingCalls
  pub export : ExportCalls
