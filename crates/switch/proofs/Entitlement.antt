-- A flow's entitlement: its own demand does not move it, the plan gives the smaller of the two, and it is at least the floor.
use Prim.Native.Nat.{ℕ, zero, suc, ◌*◌, ◌%◌, ◌/◌, ◌+◌, ◌≤◌, ◌<◌, min}
use mathlib.Core.Bool.{Bool, true, false, cond, ◌||◌}
use mathlib.Core.List.{List}
use mathlib.Core.Logic.{◌⊎◌, inl, inr}
use mathlib.Core.Path.{◌≡◌, refl, sym, ap, ◌∙◌, subst}
use native.Mathlib.Nat.{mul-le-mul_right, min-le_left, min-le_right}
use native.Mathlib.Omega.{arith}
use lib.Dec.{eqb, ltb}
use lib.Seq.{get_or-set_same, get_or-set_other, set-get_or, set-set}
use borrow.Author.Tests.{eq-eqb, ne_eqb, eqb-true, ltb-true}
use Rattle.fairness.specs.Entitlement.{asking, sharing}
use Rattle.fairness.specs.Fairness as General
use Rattle.fairness.specs.Total.{on}
use Rattle.fairness.proofs.Entitlement.{entitled, floor}
use Rattle.fairness.proofs.SameProblem.{Agree, fair_agree}
use Rattle.laws.proofs.Search.{eq_or_not, true_or_false, true_not_false, both_true}
use Rattle.switch.specs.Cells.{input, output, cell_of, input_of, output_of, input_limit, output_limit, used, used_cell}
use Rattle.switch.specs.Cells.{input_capacity, output_capacity, demand_of}
use Rattle.switch.specs.Entitlement.{with_demand, Rate, rate_of, entitlement, smaller, floor_of, SameRate, AtMost, Entitled}
use Rattle.switch.specs.Fairness.{Used}
use Rattle.switch.specs.Planned.{passes, capacity_of, problem_of, plan_of}
use Rattle.switch.specs.Rates.{Rates, rates_of, sum_to}
use Rattle.switch.specs.Within.{Within, Shaped}
use Rattle.switch.specs.declared.port.Input.{Input}
use Rattle.switch.specs.declared.port.Output.{Output}
use Rattle.switch.specs.declared.request.Request.{Request}
use Rattle.switch.proofs.Agree.{blanked, blank_blanked}
use Rattle.switch.proofs.Cells.{cell_of-ports, input_of_cell, output_of_cell, below_of_used}
use Rattle.switch.proofs.Fair.{sound, general_of_fair}
use Rattle.switch.proofs.Planned.{right_plan_of}
use Rattle.switch.proofs.Sharing.{general, by_cell, below_eight, used_flow, capacity_input, capacity_output, across_input, across_output}

abbrev with_table : Request → List ℕ → Request
with_table r xs = record { m = r.m; n = r.n; inputs = r.inputs; outputs = r.outputs; demands = xs }

-- What a flow is entitled to is told without a look at its own demand.
entitlement_unmoved : (r : Request) (c d : ℕ) → entitlement (with_demand r c d) c ≡ entitlement r c
entitlement_unmoved r c d = ap (λ (xs : List ℕ). rate_of (plan_of (with_table r xs)) c) (set-set r.demands c d _)

-- A request with the demand that it has is that request.
with_own_demand : (r : Request) (c : ℕ) → with_demand r c (demand_of r c) ≡ r
with_own_demand r c = ap (with_table r) (set-get_or r.demands c 0)

-- An even share of either port is at least the floor.
floor_by_input : (r : Request) (u : Input) (v : Output) (x : Rate) → input_capacity r u * x.base ≤ x.numerator * r.n
    → AtMost (floor_of r u v) x
floor_by_input r u v x h =
    let low : (floor_of r u v).numerator ≤ _ = min-le_left _ _ in
    omega (arith, mul-le-mul_right x.base low, mul-le-mul_right r.m h)

floor_by_output : (r : Request) (u : Input) (v : Output) (x : Rate) → output_capacity r v * x.base ≤ x.numerator * r.m
    → AtMost (floor_of r u v) x
floor_by_output r u v x h =
    let low : (floor_of r u v).numerator ≤ _ = min-le_right _ _ in
    omega (arith, mul-le-mul_right x.base low, mul-le-mul_right r.n h)

at_most_one : (b : Bool) → on b 1 ≤ 1
at_most_one true = omega arith
at_most_one false = omega arith

sum_of_ones : (n : ℕ) (test : ℕ → Bool) → sum_to n (λ i. on (test i) 1) ≤ n
unfolding sum_to
sum_of_ones zero test = omega arith
sum_of_ones (suc n) test = omega (arith, sum_of_ones n test, at_most_one (test n))

either_small : (b : Bool) {x y most : ℕ} → x ≤ most → y ≤ most → cond b x y ≤ most
either_small true hx hy = hx
either_small false hx hy = hy

-- The flows that share a port are at most as many as there are ports on the other side.
module _ (r : Request) (w : Within r) where
  abbrev ones : Rates
  ones = blanked r (record { base = 1; numerator = λ c. 1 })

  sharing_input : (u : Input) → u.0 < 8 → sharing (problem_of r) (used_cell r) (input_limit u) ≤ r.n
  sharing_input u h =
      rw (across_input r w ones (blank_blanked r w (record { base = 1; numerator = λ c. 1 })) u h)
      (sum_of_ones r.n (λ k. used_cell r (cell_of u (output k))))

  sharing_output : (v : Output) → v.0 < 8 → sharing (problem_of r) (used_cell r) (output_limit v) ≤ r.m
  sharing_output v h =
      rw (across_output r w ones (blank_blanked r w (record { base = 1; numerator = λ c. 1 })) v h)
      (sum_of_ones r.m (λ k. used_cell r (cell_of (input k) v)))

-- A flow passes its two ports and no other limit.
port_passed : (u : Input) (v : Output) → u.0 < 8 → v.0 < 8 → (Q : ℕ → Type 0) → Q (input_limit u) → Q (output_limit v)
    → (l : ℕ) → passes l (cell_of u v) ≡ true → Q l
port_passed u v hu hv Q at_input at_output l e =
    let row : min ((8 * u.0 + v.0) / 8) 8 ≡ u.0 = omega arith in
    let column : (8 * u.0 + v.0) % 8 ≡ v.0 = omega arith in
    go (true_or_false (eqb u.0 l)) (rw (row, column) at e)
  where
    go : (eqb u.0 l ≡ true) ⊎ (eqb u.0 l ≡ false) → (eqb u.0 l || eqb (8 + v.0) l) ≡ true → Q l
    go (inl q) either = subst Q (eqb-true u.0 l q) at_input
    go (inr q) either = subst Q (eqb-true (8 + v.0) l (rw q at either)) at_output

module _ (r : Request) (w : Within r) (t : Shaped r) (u : Input) (v : Output) (is : Used r u v) where
  abbrev c : ℕ
  c = cell_of u v

  ports : (u.0 < 8) × (v.0 < 8)
  ports = below_eight r w u v is

  below : c < 64
  below = omega (arith, ports)

  -- The problem of the request with another demand is the request's problem with that demand.
  demand_with : (d k : ℕ) → demand_of (with_demand r c d) k ≡ cond (eqb k c) d (demand_of r k)
  demand_with d k = go (eq_or_not k c)
    where
      go : (k ≡ c) ⊎ (k ≡ c → ⊥) → demand_of (with_demand r c d) k ≡ cond (eqb k c) d (demand_of r k)
      go (inl e) = rw (eq-eqb k c e, e) (get_or-set_same r.demands c d 0 (omega (arith, t.demands, below)))
      go (inr n) = rw (ne_eqb k c n) (get_or-set_other r.demands c k d 0 n)

  agree : (d : ℕ) → Agree (problem_of (with_demand r c d)) (asking (problem_of r) c d)
  agree d =
      record {
        flows = refl;
        limits = refl;
        through = λ l k hl hk. refl;
        capacity = λ l h. refl;
        demand = λ k h. demand_with d k;
        minimum = λ k h. refl;
        weight = λ k h. refl;
      }

  other_cell : (u' : Input) (v' : Output) → v'.0 < 8 → (r.m ≤ u'.0) ⊎ (r.n ≤ v'.0) → cell_of u' v' ≡ c → ⊥
  other_cell u' v' h (inl past) e = omega (arith, is.input, ports)
  other_cell u' v' h (inr past) e = omega (arith, is.output, ports)

  within_with_demand : (d : ℕ) → d ≤ 16_777_216 → Within (with_demand r c d)
  within_with_demand d small =
      record {
        inputs = w.inputs;
        outputs = w.outputs;
        input_capacity_within = w.input_capacity_within;
        output_capacity_within = w.output_capacity_within;
        demand = λ u' v' hu hv.
            rw (demand_with d (cell_of u' v')) (either_small (eqb (cell_of u' v') c) small (w.demand u' v' hu hv));
        unused_input = w.unused_input;
        unused_output = w.unused_output;
        unused_cell = λ u' v' hu hv past.
            get_or-set_other r.demands c (cell_of u' v') d 0 (other_cell u' v' hv past) ∙ w.unused_cell u' v' hu hv past;
      }

  abbrev rates : ℕ → Rates
  rates d = rates_of (plan_of (with_demand r c d))

  fair : (d : ℕ) → d ≤ 16_777_216 → General.Fair (problem_of (with_demand r c d)) (general (rates d))
  fair d small =
      let within = within_with_demand d small in
      let right = right_plan_of (with_demand r c d) within in
      general_of_fair (with_demand r c d) within (rates d) right.blank right.fair

  smaller_given : (d : ℕ) → d ≤ 16_777_216 → SameRate (rate_of (plan_of (with_demand r c d)) c) (smaller d (entitlement r c))
  smaller_given d small =
      entitled (problem_of r) (λ k h. omega arith) c below 16_777_216 d small (general (rates 16_777_216)) (general (rates d))
      (fair_agree (agree 16_777_216) (general (rates 16_777_216)) (fair 16_777_216 (omega arith)))
      (fair_agree (agree d) (general (rates d)) (fair d small))

  -- At the largest demand the flow has an even share of one of its ports.
  abbrev top : Request
  top = with_demand r c 16_777_216

  within_top : Within top
  within_top = within_with_demand 16_777_216 (omega arith)

  silent : (k : ℕ) → k < 64 → used_cell top k ≡ false → demand_of top k ≡ 0
  silent =
      by_cell top (λ k. used_cell top k ≡ false → demand_of top k ≡ 0)
      (λ u' v' is' e.
      absurd (true_not_false (used_flow top within_top u' v' is') e))
      (λ u' v' hu hv past e. within_top.unused_cell u' v' hu hv past)

  asks_most : demand_of top c ≡ 16_777_216
  asks_most = get_or-set_same r.demands c 16_777_216 0 (omega (arith, t.demands, below))

  wide : (l : ℕ) → passes l c ≡ true → capacity_of top l ≤ demand_of top c
  wide =
      port_passed u v ports.0 ports.1 (λ l. capacity_of top l ≤ demand_of top c)
      (rw (capacity_input top within_top u ports.0, asks_most) (w.input_capacity_within u is.input))
      (rw (capacity_output top within_top v, asks_most) (w.output_capacity_within v is.output))

  abbrev Shared : ℕ → Type 0
  Shared l = 1 * capacity_of top l * (rates 16_777_216).base ≤ (rates 16_777_216).numerator c * sharing (problem_of top) (used_cell top) l

  floor_kept : AtMost (floor_of r u v) (entitlement r c)
  floor_kept =
      let share =
      floor (problem_of top) (used_cell top) silent (general (rates 16_777_216)) (fair 16_777_216 (omega arith)) c below
      (used_flow r w u v is) wide (λ l e g h m. refl) ((sound top within_top).placed c below) in
      port_passed u v ports.0 ports.1 (λ l. Shared l → AtMost (floor_of r u v) (entitlement r c))
      (λ h. floor_by_input r u v (entitlement r c)
      (omega (
        arith,
        rw (capacity_input top within_top u ports.0) at h,
        mul-le-mul_right ((rates 16_777_216).numerator c) (sharing_input top within_top u ports.0),
      )))
      (λ h. floor_by_output r u v (entitlement r c)
      (omega (
        arith,
        rw (capacity_output top within_top v) at h,
        mul-le-mul_right ((rates 16_777_216).numerator c) (sharing_output top within_top v ports.1),
      )))
      share.0 share.2.0 share.2.1

  at_ports : Entitled r c
  at_ports =
      record {
        unmoved = entitlement_unmoved r c;
        proper = (right_plan_of top within_top).fair.allocation.positive;
        given = smaller_given;
        own =
            subst (λ (x : Request). SameRate (rate_of (plan_of x) c) (smaller (demand_of r c) (entitlement r c)))
            (with_own_demand r c) (smaller_given (demand_of r c) (w.demand u v is.input is.output));
        floor =
            subst (λ (x : Input). AtMost (floor_of r x (output_of c)) (entitlement r c)) (sym (input_of_cell u v ports.0 ports.1))
            (subst (λ (y : Output). AtMost (floor_of r u y) (entitlement r c)) (sym (output_of_cell u v ports.1)) floor_kept);
      }

-- What holds of the cell of any two used ports holds of every used cell.
by_ports : (r : Request) (P : ℕ → Type 0) → ((u : Input) (v : Output) → Used r u v → P (cell_of u v))
    → (c : ℕ) → used_cell r c ≡ true → P c
by_ports r P shown c e =
    let (low, is) = both_true (ltb c 64) (used r (input_of c) (output_of c)) e in
    let (u, v) = below_of_used r (input_of c) (output_of c) is in
    subst P (cell_of-ports c (ltb-true c 64 low)) (shown (input_of c) (output_of c) (record { input = u; output = v }))

pub within_asking : (r : Request) → Within r → Shaped r → (c : ℕ) → used_cell r c ≡ true
    → (d : ℕ) → d ≤ 16_777_216 → Within (with_demand r c d)
within_asking r w t = by_ports r (λ c. (d : ℕ) → d ≤ 16_777_216 → Within (with_demand r c d)) (within_with_demand r w t)

pub entitled_shown : (r : Request) → Within r → Shaped r → (c : ℕ) → used_cell r c ≡ true → Entitled r c
entitled_shown r w t = by_ports r (Entitled r) (at_ports r w t)
