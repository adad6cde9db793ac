-- Every text fits into 2,144 bytes: a first line of 25, 64 lines of 33, and a last line of 7.
use Prim.Native.Nat.{ℕ, zero, suc, ◌*◌, ◌^◌, ◌≤◌, ◌<◌}
use mathlib.Core.Path.{◌≡◌, refl}
use mathlib.Core.Bool.{Bool, true, false, cond}
use mathlib.Core.List.{List}
use native.Mathlib.Nat.{le_trans, mul-le-mul, suc-mul}
use native.Mathlib.Omega.{arith}
use lib.ListN.{length, length-append}
use Rattle.switch.specs.Cells.{input, output, cell_of, input_of, output_of, used_cell, demand_of}
use Rattle.switch.specs.Fault.{Fault, inputs, outputs, input_above_fault, output_above_fault, demand_above_fault, unused_input, unused_output, unused_cell}
use Rattle.switch.specs.Numbering.{number_of}
use Rattle.switch.specs.Planned.{plan_of}
use Rattle.switch.specs.Rates.{Rates, flow, rates_of}
use Rattle.switch.specs.Reason.{at_demand, input_holds, flow_reason, reason_of}
use Rattle.switch.specs.Within.{Within}
use Rattle.switch.specs.declared.port.Input.{Input}
use Rattle.switch.specs.declared.port.Output.{Output}
use Rattle.switch.specs.declared.request.Request.{Request}
use Rattle.switch.specs.declared.verdict.Refusal.{Refusal}
use Rattle.switch.specs.declared.verdict.Verdict.{Verdict}
use Rattle.switch.specs.declared.verdict.Verdict.TheVariants.{Accepted, Refused}
use Rattle.switch.proofs.Planned.{right_plan_of, base_of_plan_of}
use Rattle.judging.specs.PlanWithin.{said_reason}
use Rattle.judging.proofs.Accepted.{at_most_two}
use Rattle.formats.specs.Fault.{FileFault, size, unsealed, kind, of_request_read, spare}
use Rattle.formats.specs.RequestFile.{request_in, read_verdict}
use Rattle.formats.proofs.Fault.{read_fault}
use Rattle.formats.proofs.Sound.{sound_of_accepted}
use Rattle.texts.specs.Listing.{first_line, flow_line, cell_line, each, input_lines, last_line, plan_text, refused_text, text_of, listing_of}
use Rattle.texts.proofs.Decimal.{short_decimal}

short_first : (m n base : ℕ) → m < 10 → n < 10 → base < 10 ^ 10 → length (first_line m n base) ≤ 25
unfolding first_line
short_first m n base hm hn hb =
    simp length-append (omega (arith, short_decimal 0 m hm, short_decimal 0 n hn, short_decimal 9 base hb))

short_flow : (u : Input) (v : Output) (demand numerator reason : ℕ) → u.0 < 10 → v.0 < 10 → demand < 10 ^ 8 → numerator < 10 ^ 17
    → reason < 10 → length (flow_line u v demand numerator reason) ≤ 33
unfolding flow_line
short_flow u v demand numerator reason hu hv hd hx hq =
    simp length-append
    (omega (arith, short_decimal 0 u.0 hu, short_decimal 0 v.0 hv, short_decimal 7 demand hd, short_decimal 16 numerator hx, short_decimal 0 reason hq))

short_last : (cells : ℕ) → cells < 10 ^ 2 → length (last_line cells) ≤ 7
unfolding last_line
short_last cells h = simp length-append (omega (arith, short_decimal 1 cells h))

short_each : (n most : ℕ) (f : ℕ → List ℕ) → ((k : ℕ) → k < n → length (f k) ≤ most) → length (each n f) ≤ n * most
unfolding each
short_each zero most f h = omega arith
short_each (suc n) most f h =
    omega (arith, length-append (each n f) (f n), short_each n most f (λ k l. h k (omega arith)), h n (omega arith), suc-mul n most)

small_reason : (r : Request) (a : Rates) (c : ℕ) → reason_of r a c ≤ 2
small_reason r a c = go (used_cell r c)
  where
    go : (b : Bool) → cond b (flow_reason r a (input_of c) (output_of c)) 0 ≤ 2
    go true = at_most_two (at_demand r a (input_of c) (output_of c)) (input_holds r a (input_of c) (output_of c))
    go false = omega arith

module _ (r : Request) (w : Within r) where
  short_cell : (u : Input) (v : Output) → u.0 < r.m → v.0 < r.n → length (cell_line r (plan_of r) u v) ≤ 33
  short_cell u v hu hv =
      let right = right_plan_of r w in
      let c = cell_of u v in
      let reason : said_reason (plan_of r) c ≤ 2 =
      rw (right.reasons c (omega (arith, w.inputs.1, w.outputs.1))) (small_reason r (rates_of (plan_of r)) c) in
      let bounded = right.fair.allocation.bounded.demands u v (record { input = hu; output = hv }) in
      let demand = w.demand u v hu hv in
      let most = mul-le-mul demand (base_of_plan_of r w).1 in
      short_flow u v (demand_of r c) (flow (rates_of (plan_of r)) u v) (said_reason (plan_of r) c) (omega (arith, w.inputs.1))
      (omega (arith, w.outputs.1)) (omega arith) (omega arith) (omega arith)

  plan_fits : length (plan_text r (plan_of r)) ≤ 2144
  unfolding plan_text
  plan_fits =
      let row : (u : ℕ) → u < r.m → length (input_lines r (plan_of r) (input u)) ≤ 264 =
      λ u hu. le_trans (short_each r.n 33 _ (λ v hv. short_cell (input u) (output v) hu hv)) (omega (arith, w.outputs.1)) in
      let cells = short_each r.m 264 (λ u. input_lines r (plan_of r) (input u)) row in
      let first = short_first r.m r.n (plan_of r).base (omega (arith, w.inputs.1)) (omega (arith, w.outputs.1)) (omega (arith, (base_of_plan_of r w).1)) in
      let last = short_last (r.m * r.n) (omega (arith, mul-le-mul w.inputs.1 w.outputs.1)) in
      simp length-append (omega (arith, w.inputs.1))

few : {r : Request} {k p : ℕ} → Fault r k p → (k < 10) × (p < 1000)
few (inputs h) = (omega arith, omega arith)
few (outputs h) = (omega arith, omega arith)
few (input_above_fault u h used above) = (omega arith, omega arith)
few (output_above_fault v h used above) = (omega arith, omega arith)
few (demand_above_fault u v hu hv um vn above) = (omega arith, omega arith)
few (unused_input u h past above) = (omega arith, omega arith)
few (unused_output v h past above) = (omega arith, omega arith)
few (unused_cell u v hu hv past above) = (omega arith, omega arith)

-- What reading refuses has a number of one digit and a place of at most three.
few_in_file : {file : List ℕ} {k p : ℕ} → FileFault file k p → (k < 10) × (p < 1000)
few_in_file (size h) = (omega arith, omega arith)
few_in_file (unsealed h) = (omega arith, omega arith)
few_in_file (kind h) = (omega arith, omega arith)
few_in_file (of_request_read fault) = few fault
few_in_file (spare i low high above) = (omega arith, omega arith)

short_refused : (x : Refusal) → number_of x.cause < 10 → x.place < 1000 → length (refused_text x) ≤ 14
unfolding refused_text
short_refused x hk hp = simp length-append (omega (arith, short_decimal 0 (number_of x.cause) hk, short_decimal 2 x.place hp))

pub text_fits : (file : List ℕ) → length (listing_of file) ≤ 2144
text_fits file = go (read_verdict file) refl
  where
    go : (v : Verdict) → read_verdict file ≡ v → length (text_of v (request_in file)) ≤ 2144
    go Accepted e = plan_fits (request_in file) (sound_of_accepted file e).within
    go (Refused x) e =
        let (one, three) = few_in_file (read_fault file (number_of x.cause) x.place (rw e (refl, refl))) in
        le_trans (short_refused x one three) (omega arith)
