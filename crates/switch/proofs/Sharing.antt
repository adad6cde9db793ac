-- A switch is a problem of sharing: document 01's words for a request say what the general ones say of its problem.
use Prim.Native.Nat.{ℕ, ◌+◌, ◌-◌, ◌*◌, ◌≤◌, ◌<◌}
use mathlib.Core.Path.{◌≡◌, refl, ap, sym, ◌∙◌, subst}
use mathlib.Core.Bool.{true, false}
use mathlib.Core.Logic.{◌⊎◌, inl, inr}
use native.Mathlib.Nat.{zero-add, add-sub_of_le, add-sub_cancel_left}
use native.Mathlib.Omega.{arith}
use borrow.Author.Tests.{eq-eqb, eqb-true, lt-ltb, le-ltb}
use Rattle.fairness.specs.Problem.{across}
use Rattle.fairness.specs.Fairness as General
use Rattle.laws.proofs.Search.{le_or_lt, true_or_false}
use Rattle.switch.specs.Cells.{input, output, cell_of, input_of, output_of, input_limit, output_limit, used, used_cell}
use Rattle.switch.specs.Cells.{input_capacity, output_capacity, demand_of}
use Rattle.switch.specs.Within.{Within}
use Rattle.switch.specs.Rates.{Rates, flow, sum_to, input_total, output_total}
use Rattle.switch.specs.Fairness.{Used, Allocation, Blank, InputBottleneck, OutputBottleneck}
use Rattle.switch.specs.Planned.{passes, capacity_of, problem_of}
use Rattle.switch.specs.declared.port.Input.{Input}
use Rattle.switch.specs.declared.port.Output.{Output}
use Rattle.switch.specs.declared.request.Request.{Request}
use Rattle.switch.proofs.Cells.{cell_of-ports, used_of_below, below_of_used, past_of_unused, used_cell_of_cell}
use Rattle.switch.proofs.Grid.{sum_to_more, row_total, column_total, passes_input, passes_output}

abbrev pub general : Rates → General.Allocation
general a = record { base = a.base; numerator = a.numerator }

-- Past the ports of the switch: an unused cell.
abbrev pub Past : Request → Input → Output → Type 0
Past r u v = (r.m ≤ u.0) ⊎ (r.n ≤ v.0)

-- What holds of every flow and of every unused cell holds of every cell.
pub by_cell : (r : Request) (Q : ℕ → Type 0) → ((u : Input) (v : Output) → Used r u v → Q (cell_of u v))
    → ((u : Input) (v : Output) → u.0 < 8 → v.0 < 8 → Past r u v → Q (cell_of u v)) → (c : ℕ) → c < 64 → Q c
by_cell r Q flows rest c h = subst Q (cell_of-ports c h) (go (true_or_false (used r (input_of c) (output_of c))))
  where
    go : (used r (input_of c) (output_of c) ≡ true) ⊎ (used r (input_of c) (output_of c) ≡ false) → Q (cell_of (input_of c) (output_of c))
    go (inl e) =
        let both = below_of_used r (input_of c) (output_of c) e in
        flows (input_of c) (output_of c) (record { input = both.0; output = both.1 })
    go (inr e) = rest (input_of c) (output_of c) (omega arith) (omega arith) (past_of_unused r (input_of c) (output_of c) e)

-- What holds of every input's limit and of every output's holds of every limit.
pub by_limit : (Q : ℕ → Type 0) → ((u : Input) → u.0 < 8 → Q (input_limit u)) → ((v : Output) → v.0 < 8 → Q (output_limit v))
    → (l : ℕ) → l < 16 → Q l
by_limit Q inputs outputs l h = go (le_or_lt 8 l)
  where
    go : (8 ≤ l) ⊎ (l < 8) → Q l
    go (inr low) = inputs (input l) low
    go (inl high) = let e : 8 + (l - 8) ≡ l = omega arith in subst Q e (outputs (output (l - 8)) (omega arith))

module _ (r : Request) (w : Within r) where
  pub capacity_input : (u : Input) → u.0 < 8 → capacity_of r (input_limit u) ≡ input_capacity r u
  capacity_input u h = rw (lt-ltb u.0 8 h)

  pub capacity_output : (v : Output) → capacity_of r (output_limit v) ≡ output_capacity r v
  capacity_output v = rw (le-ltb (8 + v.0) 8 (omega arith), add-sub_cancel_left 8 v.0)

  -- Where unused cells hold 0, a limit's flows add up to what the port's do.
  pub across_input : (a : Rates) → Blank r a → (u : Input) → u.0 < 8 → across (problem_of r) (input_limit u) a.numerator ≡ input_total r a u
  across_input a blank u h =
      row_total u.0 a.numerator h
      ∙ ap (λ k. sum_to k (λ j. flow a u (output j))) (sym (add-sub_of_le w.outputs.1))
      ∙ sum_to_more r.n (8 - r.n) (λ j. flow a u (output j))
      (λ j l b. blank.unused u (output j) h (omega (arith, w.outputs.1)) (inr l))

  pub across_output : (a : Rates) → Blank r a → (v : Output) → v.0 < 8 → across (problem_of r) (output_limit v) a.numerator ≡ output_total r a v
  across_output a blank v h =
      column_total v.0 a.numerator h
      ∙ ap (λ k. sum_to k (λ j. flow a (input j) v)) (sym (add-sub_of_le w.inputs.1))
      ∙ sum_to_more r.m (8 - r.m) (λ j. flow a (input j) v)
      (λ j l b. blank.unused (input j) v (omega (arith, w.inputs.1)) h (inl l))

  pub below_eight : (u : Input) (v : Output) → Used r u v → (u.0 < 8) × (v.0 < 8)
  below_eight u v used = (omega (arith, used.input, w.inputs.1), omega (arith, used.output, w.outputs.1))

  pub used_flow : (u : Input) (v : Output) → Used r u v → used_cell r (cell_of u v) ≡ true
  used_flow u v is =
      let low = below_eight u v is in
      used_cell_of_cell r u v low.0 low.1 ∙ used_of_below r u v is.input is.output

  -- An allocation of the problem is one of the request in which unused cells hold 0.
  pub blank_of_allowed : (a : Rates) → General.Allowed (problem_of r) (general a) → Blank r a
  blank_of_allowed a ok =
      record {
        unused = λ u v hu hv past.
            let top = ok.bounded.at_most (cell_of u v) (omega arith) in
            omega (arith, ap (λ k. k * a.base) (w.unused_cell u v hu hv past));
      }

  pub allocation_of_allowed : (a : Rates) → General.Allowed (problem_of r) (general a) → Allocation r a
  allocation_of_allowed a ok =
      record {
        positive = ok.positive;
        feasible =
            record {
              inputs = λ u h.
                  let low : u.0 < 8 = omega (arith, w.inputs.1) in
                  rw (across_input a blank u low, capacity_input u low) at (ok.feasible.room (input_limit u) (omega arith));
              outputs = λ v h.
                  let low : v.0 < 8 = omega (arith, w.outputs.1) in
                  rw (across_output a blank v low, capacity_output v) at (ok.feasible.room (output_limit v) (omega arith));
            };
        bounded =
            record {
              demands = λ u v used.
                  let low = below_eight u v used in ok.bounded.at_most (cell_of u v) (omega arith);
            };
      }
    where
      blank : Blank r a
      blank = blank_of_allowed a ok

  none : (n : ℕ) (f : ℕ → ℕ) → ((i : ℕ) → i < n → f i ≡ 0) → sum_to n f ≡ 0
  unfolding sum_to
  none n f h = sym (ap (λ k. sum_to k f) (zero-add n)) ∙ sum_to_more 0 n f (λ i l b. h i (omega arith))

  -- Nothing passes an unused port.
  pub unused_input_total : (a : Rates) → Blank r a → (u : Input) → u.0 < 8 → r.m ≤ u.0 → input_total r a u ≡ 0
  unused_input_total a blank u h past =
      none r.n (λ j. flow a u (output j)) (λ j l. blank.unused u (output j) h (omega (arith, w.outputs.1)) (inl past))

  pub unused_output_total : (a : Rates) → Blank r a → (v : Output) → v.0 < 8 → r.n ≤ v.0 → output_total r a v ≡ 0
  unused_output_total a blank v h past =
      none r.m (λ j. flow a (input j) v) (λ j l. blank.unused (input j) v (omega (arith, w.inputs.1)) h (inr past))

  pub allowed_of_allocation : (a : Rates) → Blank r a → Allocation r a → General.Allowed (problem_of r) (general a)
  allowed_of_allocation a blank ok =
      record {
        positive = ok.positive;
        feasible =
            record {
              room =
                  by_limit (λ l. across (problem_of r) l a.numerator ≤ capacity_of r l * a.base)
                  (λ u h. rw (across_input a blank u h, capacity_input u h) (input_room u h (le_or_lt r.m u.0)))
                  (λ v h. rw (across_output a blank v h, capacity_output v) (output_room v h (le_or_lt r.n v.0)));
            };
        bounded =
            record {
              at_least = λ c h. omega arith;
              at_most =
                  by_cell r (λ c. a.numerator c ≤ demand_of r c * a.base) ok.bounded.demands
                  (λ u v hu hv past. omega (arith, blank.unused u v hu hv past));
            };
      }
    where
      input_room : (u : Input) → u.0 < 8 → (r.m ≤ u.0) ⊎ (u.0 < r.m) → input_total r a u ≤ input_capacity r u * a.base
      input_room u h (inl past) =
          omega (arith, unused_input_total a blank u h past)
      input_room u h (inr l) = ok.feasible.inputs u l

      output_room : (v : Output) → v.0 < 8 → (r.n ≤ v.0) ⊎ (v.0 < r.n) → output_total r a v ≤ output_capacity r v * a.base
      output_room v h (inl past) =
          omega (arith, unused_output_total a blank v h past)
      output_room v h (inr l) = ok.feasible.outputs v l

  -- Bottlenecks are the same.
  module _ (a : Rates) (blank : Blank r a) (u : Input) (v : Output) (is : Used r u v) where
    low : (u.0 < 8) × (v.0 < 8)
    low = below_eight u v is

    -- a flow that is at most f, or has nothing, is at most f
    at_most : (g : ℕ) → General.AtMost (problem_of r) (general a) g (cell_of u v) ⊎ (a.numerator g ≡ 0 * a.base)
        → a.numerator g ≤ flow a u v
    at_most g (inl h) = omega arith
    at_most g (inr e) = omega arith

    input_of_general : General.Bottleneck (problem_of r) (general a) (input_limit u) (cell_of u v) → InputBottleneck r a u v
    input_of_general neck =
        record {
          below = neck.below;
          full = rw (across_input a blank u low.0, capacity_input u low.0) at neck.full;
          greatest = λ v' h.
              let lv : v'.0 < 8 = omega (arith, w.outputs.1) in
              at_most (cell_of u v')
              (neck.highest (cell_of u v') (omega (arith, low.0))
              (passes_input u.0 u.0 v'.0 low.0 low.0 lv ∙ eq-eqb u.0 u.0 refl));
        }

    output_of_general : General.Bottleneck (problem_of r) (general a) (output_limit v) (cell_of u v) → OutputBottleneck r a u v
    output_of_general neck =
        record {
          below = neck.below;
          full = rw (across_output a blank v low.1, capacity_output v) at neck.full;
          greatest = λ u' h.
              let lu : u'.0 < 8 = omega (arith, w.inputs.1) in
              at_most (cell_of u' v)
              (neck.highest (cell_of u' v) (omega (arith, low.1))
              (passes_output v.0 u'.0 v.0 low.1 lu low.1 ∙ eq-eqb v.0 v.0 refl));
        }

    abbrev Lower : ℕ → Type 0
    Lower g = General.AtMost (problem_of r) (general a) g (cell_of u v) ⊎ (a.numerator g ≡ 0 * a.base)

    lower_of_blank : (u' : Input) (v' : Output) → u'.0 < 8 → v'.0 < 8 → Past r u' v' → Lower (cell_of u' v')
    lower_of_blank u' v' hu hv past = inr (omega (arith, blank.unused u' v' hu hv past))

    general_of_input : InputBottleneck r a u v → General.Bottleneck (problem_of r) (general a) (input_limit u) (cell_of u v)
    general_of_input neck =
        record {
          passes = passes_input u.0 u.0 v.0 low.0 low.0 low.1 ∙ eq-eqb u.0 u.0 refl;
          below = neck.below;
          full = rw (across_input a blank u low.0, capacity_input u low.0) neck.full;
          highest =
              by_cell r (λ g. passes (input_limit u) g ≡ true → Lower g) lower (λ u' v' hu hv past e. lower_of_blank u' v' hu hv past);
        }
      where
        lower : (u' : Input) (v' : Output) → Used r u' v' → passes (input_limit u) (cell_of u' v') ≡ true → Lower (cell_of u' v')
        lower u' v' is' e =
            let l' = below_eight u' v' is' in
            let same : u'.0 ≡ u.0 =
            eqb-true u'.0 u.0 (sym (passes_input u.0 u'.0 v'.0 low.0 l'.0 l'.1) ∙ e) in
            inl (rw same (omega (arith, neck.greatest v' is'.output)))

    general_of_output : OutputBottleneck r a u v → General.Bottleneck (problem_of r) (general a) (output_limit v) (cell_of u v)
    general_of_output neck =
        record {
          passes = passes_output v.0 u.0 v.0 low.1 low.0 low.1 ∙ eq-eqb v.0 v.0 refl;
          below = neck.below;
          full = rw (across_output a blank v low.1, capacity_output v) neck.full;
          highest =
              by_cell r (λ g. passes (output_limit v) g ≡ true → Lower g) lower (λ u' v' hu hv past e. lower_of_blank u' v' hu hv past);
        }
      where
        lower : (u' : Input) (v' : Output) → Used r u' v' → passes (output_limit v) (cell_of u' v') ≡ true → Lower (cell_of u' v')
        lower u' v' is' e =
            let l' = below_eight u' v' is' in
            let same : v'.0 ≡ v.0 =
            eqb-true v'.0 v.0 (sym (passes_output v.0 u'.0 v'.0 low.1 l'.0 l'.1) ∙ e) in
            inl (rw same (omega (arith, neck.greatest u' is'.input)))

    -- f has a bottleneck at one of the problem's limits exactly when its input or its output is one
    abbrev Held : Type 0
    Held = InputBottleneck r a u v ⊎ OutputBottleneck r a u v

    held_at : (l : ℕ) → l < 16 → General.Bottleneck (problem_of r) (general a) l (cell_of u v) → Held
    held_at =
        by_limit (λ l. General.Bottleneck (problem_of r) (general a) l (cell_of u v) → Held)
        (λ u' h neck.
        let same : u.0 ≡ u'.0 =
        eqb-true u.0 u'.0 (sym (passes_input u'.0 u.0 v.0 h low.0 low.1) ∙ neck.passes) in
        inl (input_of_general (rw (← same) at neck)))
        (λ v' h neck.
        let same : v.0 ≡ v'.0 =
        eqb-true v.0 v'.0 (sym (passes_output v'.0 u.0 v.0 h low.0 low.1) ∙ neck.passes) in
        inr (output_of_general (rw (← same) at neck)))

    pub settled_of_general : General.SettledAt (problem_of r) (general a) (cell_of u v)
        → (flow a u v ≡ demand_of r (cell_of u v) * a.base) ⊎ Held
    settled_of_general (inl met) = inl met
    settled_of_general (inr (l, hl, neck)) = inr (held_at l hl neck)

    pub general_of_settled : (flow a u v ≡ demand_of r (cell_of u v) * a.base) ⊎ Held
        → General.SettledAt (problem_of r) (general a) (cell_of u v)
    general_of_settled (inl met) = inl met
    general_of_settled (inr (inl neck)) = inr (input_limit u, omega (arith, low.0), general_of_input neck)
    general_of_settled (inr (inr neck)) = inr (output_limit v, omega (arith, low.1), general_of_output neck)
