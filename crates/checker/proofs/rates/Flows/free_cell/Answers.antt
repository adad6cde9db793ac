-- A cell that is walked over is used, and what the test says of it the row says too.
use Rattle.std.proofs.Common.{ℕ, ◌≡◌, ◌+◌, ◌*◌, ◌<◌, Bool, List, [], get_or, ◌∙◌, subst, arith}
use Rattle.switch.specs.Cells.{input, output, input_of, output_of}
use Rattle.switch.specs.Tables.{request_of}
use Rattle.switch.proofs.Cells.{used_of_below, used_cell_of_cell}
use Rattle.switch.proofs.Search.{Passed, passed_more}
use Rattle.worked.specs.Saturated.{ports}
use Rattle.worked.specs.Worked.{below, free_row}
use Rattle.checker.proofs.rates.Flows.free_cell.Goals as goal

tested : (m n : ℕ) (asked xs entering leaving : List ℕ) (u v cell : ℕ) (said : Bool) → u < ports m → v < ports n
    → cell ≡ 8 * u + v
    → said ≡ below (get_or asked cell 0) (get_or entering u 0) (get_or leaving v 0) (get_or xs cell 0)
    → (free_row m n asked xs entering leaving).offends (8 * u + v) ≡ said
tested m n asked xs entering leaving u v cell said hu hv at by =
    let r = request_of m n [] [] [] in
    let used = used_cell_of_cell r (input u) (output v) (omega arith) (omega arith)
    ∙ used_of_below r (input u) (output v) (omega arith) (omega arith) in
    let i : (input_of (8 * u + v)).0 ≡ u = omega arith in
    let o : (output_of (8 * u + v)).0 ≡ v = omega arith in
    rw (used, i, o, by, at)

pub loop-v-preserved : goal.loop-v-preserved
loop-v-preserved c =
    let f = c.args.self.now in
    let test = tested f.request.now.m f.request.now.n f.asked.now f.plan.now.numerators f.entering.now f.leaving.now c.loop-u.u c.loop-v.v
    c.cell-c.result c.below.result (omega arith) (omega arith) c.cell-c.ensures c.below.ensures in
    record {
      last = c.loop-v.invariant.last;
      passed = subst (Passed _) (omega arith) (passed_more c.loop-v.invariant.passed (omega arith) (test ∙ c.if-below.false));
    }
