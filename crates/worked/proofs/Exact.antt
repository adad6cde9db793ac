-- What is worked out in 64 bits is what document 01's rows say, for a request and a plan within their limits: no product is
-- capped, and a sum that is capped is more than any of them.
use Prim.Native.Nat.{ℕ, ◌*◌, ◌/◌, ◌%◌, ◌≤◌, ◌<◌, min}
use mathlib.Core.Bool.{Bool, true, false, not, ◌&&◌, ◌||◌}
use mathlib.Core.List.{List}
use mathlib.Core.Logic.{◌⊎◌, inl, inr}
use mathlib.Core.Path.{◌≡◌, refl, sym, ◌∙◌, ap, ap₂}
use native.Mathlib.Omega.{arith}
use lib.Dec.{eqb, leb, ltb}
use lib.ListN.{get_or}
use borrow.Author.Tests.{lt-ltb, le-ltb, lt-leb, le-leb, ltb-true}
use Rattle.laws.proofs.Lists.{cells-list}
use Rattle.laws.proofs.Search.{le_or_lt, true_or_false}
use Rattle.switch.specs.Cells.{input, output, cell_of, input_of, output_of, used_cell}
use Rattle.switch.specs.Cells.{input_capacity, output_capacity, demand_of}
use Rattle.switch.specs.Fairness.{Used, Blank}
use Rattle.switch.specs.Rates.{flow, rates_of, input_total, output_total}
use Rattle.switch.specs.Reason.{every, flow_reason}
use Rattle.switch.specs.Rows.{or_else, row_verdict, verdict_of}
use Rattle.switch.specs.Within.{Within}
use Rattle.switch.specs.declared.plan.Plan.{Plan}
use Rattle.switch.specs.declared.port.Input.{Input}
use Rattle.switch.specs.declared.port.Output.{Output}
use Rattle.switch.specs.declared.request.Request.{Request}
use Rattle.switch.specs.declared.verdict.Cause.TheVariants.{ReasonRange, AboveDemand, InputOver, OutputOver, NoBottleneck, WrongReason}
use Rattle.switch.proofs.Cells.{cell_below, used_cell_of_cell, unused_of_past}
use Rattle.switch.proofs.Search.{same_row}
use Rattle.switch.proofs.Sharing.{below_eight, Past, unused_input_total, unused_output_total, used_flow}
use Rattle.switch.proofs.Small.{demand_small}
use Rattle.worked.specs.Port.{input_port, output_port}
use Rattle.worked.specs.Reason.{reason_from}
use Rattle.worked.specs.declared.port.Port.{Port}
use Rattle.worked.specs.Saturated.{capped, largest}
use Rattle.worked.proofs.Bottlenecks.{product_below, product_exact, input_over_exact, output_over_exact, input_full_exact, output_full_exact, input_most_exact, output_most_exact}
use Rattle.judging.specs.PlanWithin.{PlanWithin, said_reason}
use Rattle.judging.specs.PlanRows.{reason_range_row, above_demand_row, input_over, input_over_row, output_over, output_over_row, free, no_bottleneck_row, wrong_reason_row, rate_rows}
use Rattle.worked.specs.Worked.{scaled, input_side, output_side, sums, level_of, range_worked, more_row, below, free_row, reason_by, reasons_row}
use Rattle.worked.specs.Worked.{inputs_weighed, outputs_weighed, rates_worked}
use Rattle.judging.proofs.Flows.{as_flow_row}

-- A level tells whether a flow below its demand is held back: by a port that is full and has no larger flow.
level_holds : (full sum most x : ℕ) → x < largest → leb (level_of full sum most) x ≡ (eqb sum full && leb most x)
level_holds full sum most x h = go (true_or_false (eqb sum full))
  where
    go : (eqb sum full ≡ true) ⊎ (eqb sum full ≡ false) → leb (level_of full sum most) x ≡ (eqb sum full && leb most x)
    go (inl e) = rw e
    go (inr e) = rw e (lt-leb largest x h)

-- So a reason by the level of the input is the reason by the input itself.
pub reason_by_level : (port : Port) (capacity d b x : ℕ)
    → reason_by (capped (d * b)) (level_of (capped (capacity * b)) port.sum port.most) x ≡ reason_from port capacity d b x
reason_by_level port capacity d b x = go (true_or_false (ltb x (capped (d * b))))
  where
    go : (ltb x (capped (d * b)) ≡ true) ⊎ (ltb x (capped (d * b)) ≡ false)
        → reason_by (capped (d * b)) (level_of (capped (capacity * b)) port.sum port.most) x ≡ reason_from port capacity d b x
    go (inr e) = rw e
    go (inl e) =
        let below = ltb-true x (capped (d * b)) e in
        rw (e, level_holds (capped (capacity * b)) port.sum port.most x (omega arith))

ltb_not_leb : (x y : ℕ) → ltb x y ≡ not (leb y x)
ltb_not_leb x y = go (le_or_lt y x)
  where
    go : (y ≤ x) ⊎ (x < y) → ltb x y ≡ not (leb y x)
    go (inl h) = le-ltb x y h ∙ sym (ap not (le-leb y x h))
    go (inr h) = lt-ltb x y h ∙ sym (ap not (lt-leb y x h))

neither : (p q : Bool) → (not p && not q) ≡ not (p || q)
neither true q = refl
neither false q = refl

module _ (r : Request) (w : Within r) (p : Plan) (pw : PlanWithin r p) where
  small : p.base ≤ 549_755_813_888
  small = omega (arith, pw.base.1)

  blank : Blank r (rates_of p)
  blank = record { unused = pw.unused_rate }

  asked : List ℕ
  asked = scaled 64 p.base r.demands

  entering : List ℕ
  entering = (inputs_weighed r.n r.inputs p.base p.numerators).levels

  leaving : List ℕ
  leaving = (outputs_weighed r.m r.outputs p.base p.numerators).levels

  asked_exact : (c : ℕ) → c < 64 → get_or asked c 0 ≡ demand_of r c * p.base
  unfolding asked
  asked_exact c h =
      cells-list 64 _ c h ∙ product_exact r w p.base p.numerators small (demand_of r c) (demand_small r w c h)

  asked_below : (c : ℕ) → c < 64 → get_or asked c 0 < largest
  asked_below c h =
      rw (asked_exact c h) (product_below r w p.base p.numerators small (demand_of r c) (demand_small r w c h))

  entering_is : (u : Input) → u.0 < 8 → get_or entering u.0 0
      ≡ level_of (capped (input_capacity r u * p.base)) (input_port r.n p.numerators u).sum (input_port r.n p.numerators u).most
  unfolding entering
  entering_is u h =
      cells-list 8 _ u.0 h ∙ rw (cells-list 8 (λ i. capped (get_or r.inputs i 0 * p.base)) u.0 h)

  leaving_is : (v : Output) → v.0 < 8 → get_or leaving v.0 0
      ≡ level_of (capped (output_capacity r v * p.base)) (output_port r.m p.numerators v).sum (output_port r.m p.numerators v).most
  unfolding leaving
  leaving_is v h =
      cells-list 8 _ v.0 h ∙ rw (cells-list 8 (λ i. capped (get_or r.outputs i 0 * p.base)) v.0 h)

  -- Full, and no flow of the port larger than x.
  input_full : Input → ℕ → Bool
  input_full u x =
      eqb (input_total r (rates_of p) u) (input_capacity r u * p.base) && every r.n (λ k. leb (flow (rates_of p) u (output k)) x)

  output_full : Output → ℕ → Bool
  output_full v x =
      eqb (output_total r (rates_of p) v) (output_capacity r v * p.base) && every r.m (λ k. leb (flow (rates_of p) (input k) v) x)

  input_held : (u : Input) (x : ℕ) → u.0 < 8 → x < largest → leb (get_or entering u.0 0) x ≡ input_full u x
  unfolding input_full
  input_held u x h l =
      ap (λ k. leb k x) (entering_is u h)
      ∙ level_holds (capped (input_capacity r u * p.base)) (input_port r.n p.numerators u).sum
      (input_port r.n p.numerators u).most x l
      ∙ ap₂ ◌&&◌ (input_full_exact r w p.base p.numerators small u h) (input_most_exact r w p.base p.numerators small u x)

  output_held : (v : Output) (x : ℕ) → v.0 < 8 → x < largest → leb (get_or leaving v.0 0) x ≡ output_full v x
  unfolding output_full
  output_held v x h l =
      ap (λ k. leb k x) (leaving_is v h)
      ∙ level_holds (capped (output_capacity r v * p.base)) (output_port r.m p.numerators v).sum
      (output_port r.m p.numerators v).most x l
      ∙ ap₂ ◌&&◌ (output_full_exact r w p.base p.numerators small v h) (output_most_exact r w p.base p.numerators small v x)

  -- One flow: what its ports' levels say of it.
  module _ (u : Input) (v : Output) (is : Used r u v) where
    hu : u.0 < 8
    hu = (below_eight r w u v is).0

    hv : v.0 < 8
    hv = (below_eight r w u v is).1

    x : ℕ
    x = flow (rates_of p) u v

    input_number : min (cell_of u v / 8) 8 ≡ u.0
    input_number = omega (arith, hu, hv)

    row_number : cell_of u v / 8 ≡ u.0
    row_number = omega (arith, hv)

    output_number : cell_of u v % 8 ≡ v.0
    output_number = omega (arith, hv)

    asks : get_or asked (cell_of u v) 0 ≡ demand_of r (cell_of u v) * p.base
    asks = asked_exact (cell_of u v) (cell_below u v hu hv)

    small_below : ltb x (demand_of r (cell_of u v) * p.base) ≡ true → x < largest
    small_below e =
        omega (arith, ltb-true x (demand_of r (cell_of u v) * p.base) e, asks, asked_below (cell_of u v) (cell_below u v hu hv))

    free_exact : below (get_or asked (cell_of u v) 0) (get_or entering u.0 0) (get_or leaving v.0 0) x ≡ free r p u v
    unfolding x input_full output_full
    free_exact = rw asks (go (true_or_false (ltb x (demand_of r (cell_of u v) * p.base))))
      where
        go : (ltb x (demand_of r (cell_of u v) * p.base) ≡ true) ⊎ (ltb x (demand_of r (cell_of u v) * p.base) ≡ false)
            → below (demand_of r (cell_of u v) * p.base) (get_or entering u.0 0) (get_or leaving v.0 0) x ≡ free r p u v
        go (inr e) = rw e
        go (inl e) =
            let l = small_below e in
            rw (e, ltb_not_leb x (get_or entering u.0 0), ltb_not_leb x (get_or leaving v.0 0), input_held u x hu l, output_held v x hv l)
            (neither (input_full u x) (output_full v x))

    reason_exact : reason_by (get_or asked (cell_of u v) 0) (get_or entering u.0 0) x ≡ flow_reason r (rates_of p) u v
    unfolding x input_full
    reason_exact = rw asks (go (true_or_false (ltb x (demand_of r (cell_of u v) * p.base))))
      where
        go : (ltb x (demand_of r (cell_of u v) * p.base) ≡ true) ⊎ (ltb x (demand_of r (cell_of u v) * p.base) ≡ false)
            → reason_by (demand_of r (cell_of u v) * p.base) (get_or entering u.0 0) x ≡ flow_reason r (rates_of p) u v
        go (inr e) = rw e
        go (inl e) = rw (e, input_held u x hu (small_below e))

  -- An unused cell has rate 0 of demand 0, and reason 0.
  nothing_asked : (u : Input) (v : Output) → u.0 < 8 → v.0 < 8 → Past r u v → get_or asked (cell_of u v) 0 ≡ 0
  nothing_asked u v hu hv past =
      asked_exact (cell_of u v) (cell_below u v hu hv) ∙ omega (arith, ap (λ k. k * p.base) (w.unused_cell u v hu hv past))

  range_as_defined : row_verdict (range_worked p.reasons) ≡ row_verdict (reason_range_row r p)
  range_as_defined =
      as_flow_row r w ReasonRange _ (λ c. ltb 2 (said_reason p c)) (λ u v is. refl)
      (λ u v hu hv past. le-ltb 2 (said_reason p (cell_of u v)) (omega (arith, pw.unused_reason u v hu hv past)))

  above_as_defined : row_verdict (more_row AboveDemand 64 asked p.numerators) ≡ row_verdict (above_demand_row r p)
  above_as_defined =
      as_flow_row r w AboveDemand _ (λ c. ltb (get_or asked c 0) (get_or p.numerators c 0))
      (λ u v is. ap (λ k. ltb k (flow (rates_of p) u v)) (asks u v is))
      (λ u v hu hv past. le-ltb (get_or asked (cell_of u v) 0) (flow (rates_of p) u v) (omega (arith, pw.unused_rate u v hu hv past)))

  free_as_defined : row_verdict (free_row r.m r.n asked p.numerators entering leaving) ≡ row_verdict (no_bottleneck_row r p)
  unfolding x
  free_as_defined =
      as_flow_row r w NoBottleneck (free r p)
      (λ c. used_cell r c && below (get_or asked c 0) (get_or entering (input_of c).0 0) (get_or leaving (output_of c).0 0) (get_or p.numerators c 0))
      (λ u v is. rw (used_flow r w u v is, input_number u v is, output_number u v is) (free_exact u v is))
      (λ u v hu hv past. rw (used_cell_of_cell r u v hu hv ∙ unused_of_past r u v past))

  reasons_as_defined : row_verdict (reasons_row asked p.numerators entering p.reasons) ≡ row_verdict (wrong_reason_row r p)
  unfolding x
  reasons_as_defined =
      as_flow_row r w WrongReason (λ u v. not (eqb (said_reason p (cell_of u v)) (flow_reason r (rates_of p) u v)))
      (λ c. not (eqb (said_reason p c) (reason_by (get_or asked c 0) (get_or entering (c / 8) 0) (get_or p.numerators c 0))))
      (λ u v is. rw (row_number u v is, reason_exact u v is))
      (λ u v hu hv past. rw (nothing_asked u v hu hv past, pw.unused_rate u v hu hv past, pw.unused_reason u v hu hv past))

  inputs_as_defined : row_verdict (more_row InputOver 8 (scaled 8 p.base r.inputs) (sums (input_side r.n p.numerators)))
      ≡ row_verdict (input_over_row r p)
  inputs_as_defined = same_row InputOver 8 (λ i. i) _ _ (λ i h. go i h (le_or_lt r.m i))
    where
      over : (i : ℕ) → i < 8
          → ltb (get_or (scaled 8 p.base r.inputs) i 0) (get_or (sums (input_side r.n p.numerators)) i 0)
          ≡ ltb (input_capacity r (input i) * p.base) (input_total r (rates_of p) (input i))
      over i h = ap₂ ltb (cells-list 8 _ i h) (cells-list 8 _ i h) ∙ input_over_exact r w p.base p.numerators small (input i) h

      go : (i : ℕ) → i < 8 → (r.m ≤ i) ⊎ (i < r.m)
          → ltb (get_or (scaled 8 p.base r.inputs) i 0) (get_or (sums (input_side r.n p.numerators)) i 0) ≡ input_over r p (input i)
      go i h (inr l) = over i h ∙ sym (rw (lt-ltb i r.m l))
      go i h (inl l) =
          over i h ∙ rw (le-ltb i r.m l)
          (le-ltb (input_capacity r (input i) * p.base) (input_total r (rates_of p) (input i))
          (omega (arith, unused_input_total r w (rates_of p) blank (input i) h l)))

  outputs_as_defined : row_verdict (more_row OutputOver 8 (scaled 8 p.base r.outputs) (sums (output_side r.m p.numerators)))
      ≡ row_verdict (output_over_row r p)
  outputs_as_defined = same_row OutputOver 8 (λ i. i) _ _ (λ i h. go i h (le_or_lt r.n i))
    where
      over : (i : ℕ) → i < 8
          → ltb (get_or (scaled 8 p.base r.outputs) i 0) (get_or (sums (output_side r.m p.numerators)) i 0)
          ≡ ltb (output_capacity r (output i) * p.base) (output_total r (rates_of p) (output i))
      over i h = ap₂ ltb (cells-list 8 _ i h) (cells-list 8 _ i h) ∙ output_over_exact r w p.base p.numerators small (output i) h

      go : (i : ℕ) → i < 8 → (r.n ≤ i) ⊎ (i < r.n)
          → ltb (get_or (scaled 8 p.base r.outputs) i 0) (get_or (sums (output_side r.m p.numerators)) i 0) ≡ output_over r p (output i)
      go i h (inr l) = over i h ∙ sym (rw (lt-ltb i r.n l))
      go i h (inl l) =
          over i h ∙ rw (le-ltb i r.n l)
          (le-ltb (output_capacity r (output i) * p.base) (output_total r (rates_of p) (output i))
          (omega (arith, unused_output_total r w (rates_of p) blank (output i) h l)))

  pub worked_as_defined : rates_worked r p ≡ verdict_of (rate_rows r p)
  unfolding verdict_of asked entering leaving
  worked_as_defined =
      ap₂ or_else range_as_defined
      (ap₂ or_else above_as_defined
      (ap₂ or_else inputs_as_defined
      (ap₂ or_else outputs_as_defined (ap₂ or_else free_as_defined (ap₂ or_else reasons_as_defined refl)))))
