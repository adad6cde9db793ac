-- For a request within the limits and a base that is small enough the tests of this crate are document 01's, whatever the
-- numerators are.
use Prim.Native.Nat.{ℕ, ◌*◌, ◌≤◌, ◌<◌}
use mathlib.Core.Path.{◌≡◌, sym, ◌∙◌, ap}
use mathlib.Core.Bool.{Bool, true, false, cond}
use mathlib.Core.List.{List}
use mathlib.Core.Logic.{◌⊎◌, ◌↔◌, inl, inr}
use native.Mathlib.Nat.{mul-le-mul}
use native.Mathlib.Omega.{arith}
use lib.Dec.{eqb, leb, ltb}
use lib.ListN.{get_or}
use Rattle.laws.specs.Lists.{list}
use Rattle.laws.proofs.Lists.{list_same}
use Rattle.laws.proofs.Search.{true_or_false}
use Rattle.switch.specs.Cells.{input, output, cell_of, input_of, output_of, used_cell, input_capacity, output_capacity, demand_of}
use Rattle.switch.specs.Within.{Within}
use Rattle.switch.specs.Rates.{flow, input_total, output_total}
use Rattle.switch.specs.Fairness.{Used, InputBottleneck, OutputBottleneck}
use Rattle.switch.specs.Reason.{every, input_holds, output_holds, flow_reason, reason_of}
use Rattle.switch.specs.declared.port.Input.{Input}
use Rattle.switch.specs.declared.port.Output.{Output}
use Rattle.switch.specs.declared.request.Request.{Request}
use Rattle.switch.proofs.Cells.{cell_of-ports, below_of_used, used_cell_of_ports}
use Rattle.switch.proofs.Sharing.{below_eight}
use Rattle.switch.proofs.Reason.{bottleneck_of_holds, holds_of_bottleneck, output_bottleneck_of_holds, holds_of_output_bottleneck}
use Rattle.switch.proofs.Small.{input_small, output_small}
use Rattle.worked.specs.Saturated.{capped, largest, ports}
use Rattle.worked.specs.Port.{input_port, output_port}
use Rattle.worked.specs.Rates.{rates_over}
use Rattle.worked.specs.Reason.{holds, reason_from, reason_at, reasons_at}
use Rattle.worked.specs.declared.port.Port.{Port}
use Rattle.worked.proofs.Ports.{leb_most}
use Rattle.worked.proofs.Saturated.{ltb_capped, eqb_capped}

-- What two tests make of a flow: 0 if it has its demand, else 1 if its input holds it back, and else 2.
reason_of_tests : (port : Port) (capacity d b x : ℕ) {met held : Bool} → eqb x (capped (d * b)) ≡ met
    → holds port capacity d b x ≡ held → reason_from port capacity d b x ≡ cond met 0 (cond held 1 2)
reason_of_tests port capacity d b x e h = rw (e, h)

-- A base of at most 2^39: a capacity or a demand of at most 2^24 times the base fits, and so a sum of numerators that was
-- stopped is more than it, however large they are.
module _ (r : Request) (w : Within r) (b : ℕ) (xs : List ℕ) (small : b ≤ 549_755_813_888) where
  pub product_below : (d : ℕ) → d ≤ 16_777_216 → d * b < largest
  product_below d h = omega (arith, mul-le-mul h small)

  pub product_exact : (d : ℕ) → d ≤ 16_777_216 → capped (d * b) ≡ d * b
  product_exact d h = omega (arith, product_below d h)

  all_outputs : ports r.n ≡ r.n
  all_outputs = omega (arith, w.outputs.1)

  all_inputs : ports r.m ≡ r.m
  all_inputs = omega (arith, w.inputs.1)

  -- What a port's sum says when it is held against its capacity.
  pub input_over_exact : (u : Input) → u.0 < 8
      → ltb (capped (input_capacity r u * b)) (input_port r.n xs u).sum
      ≡ ltb (input_capacity r u * b) (input_total r (rates_over b xs) u)
  input_over_exact u low =
      let k = input_small r w u low in
      rw (product_exact (input_capacity r u) k, all_outputs) (ltb_capped _ _ (product_below (input_capacity r u) k))

  pub output_over_exact : (v : Output) → v.0 < 8
      → ltb (capped (output_capacity r v * b)) (output_port r.m xs v).sum
      ≡ ltb (output_capacity r v * b) (output_total r (rates_over b xs) v)
  output_over_exact v low =
      let k = output_small r w v low in
      rw (product_exact (output_capacity r v) k, all_inputs) (ltb_capped _ _ (product_below (output_capacity r v) k))

  pub input_full_exact : (u : Input) → u.0 < 8
      → eqb (input_port r.n xs u).sum (capped (input_capacity r u * b))
      ≡ eqb (input_total r (rates_over b xs) u) (input_capacity r u * b)
  input_full_exact u low =
      let k = input_small r w u low in
      rw (product_exact (input_capacity r u) k, all_outputs) (eqb_capped _ _ (product_below (input_capacity r u) k))

  pub output_full_exact : (v : Output) → v.0 < 8
      → eqb (output_port r.m xs v).sum (capped (output_capacity r v * b))
      ≡ eqb (output_total r (rates_over b xs) v) (output_capacity r v * b)
  output_full_exact v low =
      let k = output_small r w v low in
      rw (product_exact (output_capacity r v) k, all_inputs) (eqb_capped _ _ (product_below (output_capacity r v) k))

  -- One comparison with a port's largest numerator stands for one with each.
  pub input_most_exact : (u : Input) (x : ℕ)
      → leb (input_port r.n xs u).most x ≡ every r.n (λ k. leb (flow (rates_over b xs) u (output k)) x)
  input_most_exact u x = rw all_outputs (leb_most r.n (λ k. get_or xs (cell_of u (output k)) 0) x)

  pub output_most_exact : (v : Output) (x : ℕ)
      → leb (output_port r.m xs v).most x ≡ every r.m (λ k. leb (flow (rates_over b xs) (input k) v) x)
  output_most_exact v x = rw all_inputs (leb_most r.m (λ k. get_or xs (cell_of (input k) v) 0) x)

  module _ (u : Input) (v : Output) (is : Used r u v) where
    low : (u.0 < 8) × (v.0 < 8)
    low = below_eight r w u v is

    demand_exact : capped (demand_of r (cell_of u v) * b) ≡ demand_of r (cell_of u v) * b
    demand_exact = product_exact (demand_of r (cell_of u v)) (w.demand u v is.input is.output)

    -- The tests of the ports are document 01's, and are true exactly when the port is a bottleneck.
    pub input_holds_as_defined : holds (input_port r.n xs u) (input_capacity r u) (demand_of r (cell_of u v)) b (get_or xs (cell_of u v) 0)
        ≡ input_holds r (rates_over b xs) u v
    input_holds_as_defined =
        rw (demand_exact, input_full_exact u low.0, input_most_exact u (get_or xs (cell_of u v) 0))

    pub output_holds_as_defined : holds (output_port r.m xs v) (output_capacity r v) (demand_of r (cell_of u v)) b (get_or xs (cell_of u v) 0)
        ≡ output_holds r (rates_over b xs) u v
    output_holds_as_defined =
        rw (demand_exact, output_full_exact v low.1, output_most_exact v (get_or xs (cell_of u v) 0))

    pub input_holds_exactly : (holds (input_port r.n xs u) (input_capacity r u) (demand_of r (cell_of u v)) b (get_or xs (cell_of u v) 0) ≡ true)
        ↔ InputBottleneck r (rates_over b xs) u v
    input_holds_exactly = (
      λ e. bottleneck_of_holds r (rates_over b xs) u v (sym input_holds_as_defined ∙ e),
      λ neck. input_holds_as_defined ∙ holds_of_bottleneck r (rates_over b xs) u v neck,
    )

    pub output_holds_exactly : (holds (output_port r.m xs v) (output_capacity r v) (demand_of r (cell_of u v)) b (get_or xs (cell_of u v) 0) ≡ true)
        ↔ OutputBottleneck r (rates_over b xs) u v
    output_holds_exactly = (
      λ e. output_bottleneck_of_holds r (rates_over b xs) u v (sym output_holds_as_defined ∙ e),
      λ neck. output_holds_as_defined ∙ holds_of_output_bottleneck r (rates_over b xs) u v neck,
    )

    flow_reason_as_defined : reason_from (input_port r.n xs u) (input_capacity r u) (demand_of r (cell_of u v)) b (get_or xs (cell_of u v) 0)
        ≡ flow_reason r (rates_over b xs) u v
    flow_reason_as_defined =
        reason_of_tests _ (input_capacity r u) (demand_of r (cell_of u v)) b (get_or xs (cell_of u v) 0)
        (ap (eqb (get_or xs (cell_of u v) 0)) demand_exact) input_holds_as_defined

  reason_as_defined : (c : ℕ) → c < 64
      → reason_at r.m r.n r.inputs r.demands b xs c ≡ reason_of r (rates_over b xs) c
  reason_as_defined c h = go (true_or_false (used_cell r c))
    where
      go : (used_cell r c ≡ true) ⊎ (used_cell r c ≡ false)
          → reason_at r.m r.n r.inputs r.demands b xs c ≡ reason_of r (rates_over b xs) c
      go (inr e) = rw e
      go (inl e) =
          let both = below_of_used r (input_of c) (output_of c) (sym (used_cell_of_ports r c h) ∙ e) in
          rw e
          (ap (λ k. reason_from (input_port r.n xs (input_of c)) (input_capacity r (input_of c)) (get_or r.demands k 0) b (get_or xs k 0))
          (sym (cell_of-ports c h))
          ∙ flow_reason_as_defined (input_of c) (output_of c) (record { input = both.0; output = both.1 }))

  -- The reasons that are worked out here are those of a plan with these numerators.
  pub reasons_right : reasons_at r.m r.n r.inputs r.demands b xs ≡ list 64 (reason_of r (rates_over b xs))
  reasons_right = list_same 64 _ _ reason_as_defined
