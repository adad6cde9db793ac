-- The tables that a request's ports and demands make are modest, and what is fair for them is fair for the request.
use Prim.Native.Nat.{ℕ, ◌+◌, ◌-◌, ◌/◌, ◌%◌, ◌≤◌, ◌<◌, min}
use mathlib.Core.Path.{◌≡◌, refl, ◌∙◌}
use mathlib.Core.Bool.{true, or-false}
use mathlib.Core.Logic.{◌⊎◌, inl, inr}
use native.Mathlib.Nat.{le_trans}
use native.Mathlib.Omega.{arith}
use lib.Dec.{lit≤}
use lib.ListN.{replicate, get_or-replicate}
use borrow.Author.Tests.{ne_eqb, lt-ltb, le-ltb}
use Rattle.laws.specs.Lists.{cells}
use Rattle.laws.proofs.Lists.{cells-list}
use Rattle.laws.proofs.Search.{le_or_lt}
use Rattle.fairness.specs.Total.{total}
use Rattle.fairness.specs.Problem.{Sound, across}
use Rattle.fairness.specs.Fairness.{Allocation, Fair}
use Rattle.fairness.proofs.Sums.{total_same, total-zero}
use Rattle.fairness.proofs.ProductBound.{ports_bound}
use Rattle.fairness.proofs.Existence.{busy_limits_at_most, busy_weight_at_most}
use Rattle.switch.specs.Cells.{input, output}
use Rattle.switch.specs.Rates.{sum_to}
use Rattle.switch.specs.Within.{Within}
use Rattle.switch.specs.Planned.{passes, capacity_of, problem_of}
use Rattle.switch.specs.declared.request.Request.{Request}
use Rattle.switch.proofs.Grid.{row_total, column_total}
use Rattle.switch.proofs.Sharing.{by_limit}
use Rattle.switch.proofs.Small.{input_small, output_small, demand_small}
use Rattle.planner.specs.Sizes.{most_asked, most_parts}
use Rattle.planner.specs.Limits.{through}
use Rattle.planner.specs.Ports.{ports_of}
use Rattle.planner.specs.Engine.{Modest}
use Rattle.planner.proofs.Passing.{through_input, through_output, passes_input}
use Rattle.fairness.proofs.SameProblem.{Agree, across_agree, fair_agree}

pub through_passes : (l c : ℕ) → l < 16 → c < 64 → through l c ≡ passes l c
through_passes l c hl hc = go (le_or_lt 8 l)
  where
    go : (8 ≤ l) ⊎ (l < 8) → through l c ≡ passes l c
    go (inr low) =
        let row : min (c / 8) 8 ≡ c / 8 = omega arith in
        through_input l c low ∙ rw (row, ne_eqb (8 + c % 8) l (λ e. omega arith), or-false)
    go (inl high) = through_output l c high hl ∙ rw (ne_eqb (min (c / 8) 8) l (λ e. omega arith))

minimum_none : (c : ℕ) → c < 64 → cells (replicate 64 0) c ≡ 0
minimum_none c hc = get_or-replicate 64 c 0 0 hc

weight_one : (c : ℕ) → c < 64 → cells (replicate 64 1) c ≡ 1
weight_one c hc = get_or-replicate 64 c 1 0 hc

module _ (r : Request) where
  capacity_same : (l : ℕ) → l < 16 → (ports_of r).capacity l ≡ capacity_of r l
  capacity_same l hl = cells-list 20 (capacity_of r) l (omega arith)

  agree_ports : Agree (ports_of r) (problem_of r)
  agree_ports =
      record {
        flows = refl;
        limits = refl;
        through = through_passes;
        capacity = capacity_same;
        demand = λ c hc. refl;
        minimum = minimum_none;
        weight = weight_one;
      }

  pub fair_ports : (a : Allocation) → Fair (ports_of r) a → Fair (problem_of r) a
  fair_ports = fair_agree agree_ports

-- The 64 weights of 1, and the 8 of them that a port has.
all_weights : total 64 (λ c. true) (cells (replicate 64 1)) ≤ 64
unfolding total
all_weights = lit≤ tt

port_weights : (l : ℕ) → l < 16 → total 64 (passes l) (λ c. 1) ≡ 8
unfolding sum_to
port_weights =
    by_limit (λ l. total 64 (passes l) (λ c. 1) ≡ 8) (λ u h. row_total u.0 (λ c. 1) h) (λ v h. column_total v.0 (λ c. 1) h)

module _ (r : Request) (within : Within r) where
  capacity_small : (l : ℕ) → l < 16 → (ports_of r).capacity l ≤ most_asked
  capacity_small l hl = rw (capacity_same r l hl) (go (le_or_lt 8 l))
    where
      go : (8 ≤ l) ⊎ (l < 8) → capacity_of r l ≤ most_asked
      go (inr low) = rw (lt-ltb l 8 low) (input_small r within (input l) low)
      go (inl high) = rw (le-ltb l 8 high) (output_small r within (output (l - 8)) (omega arith))

  shares : (l : ℕ) → l < 16 → across (ports_of r) l (ports_of r).weight ≤ most_parts
  shares l hl =
      let ones = total_same 64 (through l) (ports_of r).weight (λ c. 1) weight_one in
      omega (arith, across_agree (agree_ports r) l (λ c. 1) hl, port_weights l hl)

  sound : Sound (ports_of r)
  sound =
      record {
        placed = λ c hc. (c / 8, omega arith, passes_input c hc);
        weighed = λ c hc. rw (weight_one c hc) (omega arith);
        least = λ c hc. rw (minimum_none c hc) (omega arith);
        fits = λ l hl.
            omega (arith, total-zero 64 (through l) (ports_of r).minimum (λ c hc m. minimum_none c hc));
      }

  pub modest_ports : Modest (ports_of r) 1
  modest_ports =
      record {
        sound = sound;
        capacities = capacity_small;
        demands = demand_small r within;
        weights = λ c hc. rw (weight_one c hc) (omega arith);
        heavy = omega arith;
        shares = shares;
        divisors = λ ks few small.
            le_trans
            (ports_bound ks (le_trans few (busy_limits_at_most (ports_of r)))
            (le_trans small (le_trans (busy_weight_at_most (ports_of r)) all_weights)))
            (lit≤ tt);
      }
