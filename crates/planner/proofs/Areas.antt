-- The walk over a limit's cells comes to every one of them, in order.
use Prim.Native.Nat.{ℕ, ◌+◌, ◌-◌, ◌*◌, ◌/◌, ◌%◌, ◌≤◌, ◌<◌}
use mathlib.Core.Path.{◌≡◌, refl, ◌∙◌}
use mathlib.Core.Bool.{false}
use native.Mathlib.Omega.{arith}
use borrow.Author.Tests.{eq-eqb, ne_eqb, lt-ltb, le-ltb}
use Rattle.planner.specs.Limits.{through}
use Rattle.planner.specs.Areas.{first_of, end_of, step_of, on_card}
use Rattle.planner.proofs.Passing.{through_input, through_output, through_input_card, through_output_card, by_range}

-- The numbers of a limit, one range of limits at a time.
abbrev Numbers : ℕ → ℕ → ℕ → ℕ → Type 0
Numbers l first end step = (first_of l ≡ first) × (end_of l ≡ end) × (step_of l ≡ step)

module _ (l : ℕ) where
  of_input : l < 8 → Numbers l (8 * l) (8 * l + 8) 1
  unfolding first_of end_of step_of
  of_input h = rw (lt-ltb l 8 h) (refl, refl, refl)

  of_output : 8 ≤ l → l < 16 → Numbers l (l - 8) 64 8
  unfolding first_of end_of step_of
  of_output g h = rw (le-ltb l 8 g, lt-ltb l 16 h) (refl, refl, refl)

  of_input_card : 16 ≤ l → l < 18 → Numbers l (32 * (l - 16)) (32 * (l - 16) + 32) 1
  unfolding first_of end_of step_of
  of_input_card g h = rw (le-ltb l 8 (omega arith), le-ltb l 16 g, lt-ltb l 18 h) (refl, refl, refl)

  of_output_card : 18 ≤ l → Numbers l (4 * (l - 18)) 64 1
  unfolding first_of end_of step_of
  of_output_card g = rw (le-ltb l 8 (omega arith), le-ltb l 16 (omega arith), le-ltb l 18 g) (refl, refl, refl)

-- A cell that the walk comes to: not before the first, and for an output in its column.
pub record OnLine (l c : ℕ) : Type 0 where
  pub from : first_of l ≤ c
  pub column : 8 ≤ l → l < 16 → c % 8 ≡ l - 8

-- What holds of the walk, one range at a time.
pub record Walk (l : ℕ) : Type 0 where
  pub end_low : end_of l ≤ 64
  pub step_up : 0 < step_of l
  -- Stands because docs/PORT-NAMES.md names it; no function cites it today.
  pub step_low : step_of l ≤ 8
  pub before : (d : ℕ) → d < first_of l → through l d ≡ false
  pub beyond : (d : ℕ) → end_of l ≤ d → d < 64 → through l d ≡ false
  pub first_on : OnLine l (first_of l)
  pub next_on : (c : ℕ) → OnLine l c → OnLine l (c + step_of l)
  pub here : (c : ℕ) → c < end_of l → OnLine l c → through l c ≡ on_card l c
  pub between : (c : ℕ) → OnLine l c → (d : ℕ) → c < d → d < c + step_of l → through l d ≡ false

pub walk_of : (l : ℕ) → l < 20 → Walk l
walk_of = by_range Walk inputs outputs input_cards output_cards
  where
    inputs : (l : ℕ) → l < 8 → Walk l
    inputs l h =
        let is = of_input l h in
        record {
          end_low = omega (arith, is.1);
          step_up = omega (arith, is.2);
          step_low = omega (arith, is.2);
          before = λ d b. through_input l d h ∙ ne_eqb (d / 8) l (λ e. omega (arith, is.0));
          beyond = λ d b hd. through_input l d h ∙ ne_eqb (d / 8) l (λ e. omega (arith, is.1));
          first_on = record { from = omega arith; column = λ g. absurd (omega arith) };
          next_on = λ c on. record { from = omega (arith, on.from); column = λ g. absurd (omega arith) };
          here = λ c b on.
              through_input l c h ∙ eq-eqb (c / 8) l (omega (arith, is.0, is.1, on.from)) ∙ rw (lt-ltb l 18 (omega arith));
          between = λ c on d a b. absurd (omega (arith, is.2));
        }

    outputs : (l : ℕ) → 8 ≤ l → l < 16 → Walk l
    outputs l g h =
        let is = of_output l g h in
        record {
          end_low = omega (arith, is.1);
          step_up = omega (arith, is.2);
          step_low = omega (arith, is.2);
          before = λ d b. through_output l d g h ∙ ne_eqb (8 + d % 8) l (λ e. omega (arith, is.0));
          beyond = λ d b hd. absurd (omega (arith, is.1));
          first_on = record { from = omega arith; column = λ g' h'. omega (arith, is.0) };
          next_on = λ c on. record { from = omega (arith, on.from); column = λ g' h'. omega (arith, is.2, on.column g h) };
          here = λ c b on.
              through_output l c g h ∙ eq-eqb (8 + c % 8) l (omega (arith, on.column g h)) ∙ rw (lt-ltb l 18 (omega arith));
          between = λ c on d a b. through_output l d g h ∙ ne_eqb (8 + d % 8) l (λ e. omega (arith, is.2, on.column g h));
        }

    input_cards : (l : ℕ) → 16 ≤ l → l < 18 → Walk l
    input_cards l g h =
        let is = of_input_card l g h in
        record {
          end_low = omega (arith, is.1);
          step_up = omega (arith, is.2);
          step_low = omega (arith, is.2);
          before = λ d b. through_input_card l d g h ∙ ne_eqb (16 + d / 32) l (λ e. omega (arith, is.0));
          beyond = λ d b hd. through_input_card l d g h ∙ ne_eqb (16 + d / 32) l (λ e. omega (arith, is.1));
          first_on = record { from = omega arith; column = λ g' h'. absurd (omega arith) };
          next_on = λ c on. record { from = omega (arith, on.from); column = λ g' h'. absurd (omega arith) };
          here = λ c b on.
              through_input_card l c g h ∙ eq-eqb (16 + c / 32) l (omega (arith, is.0, is.1, on.from)) ∙ rw (lt-ltb l 18 h);
          between = λ c on d a b. absurd (omega (arith, is.2));
        }

    output_cards : (l : ℕ) → 18 ≤ l → l < 20 → Walk l
    output_cards l g h =
        let is = of_output_card l g in
        record {
          end_low = omega (arith, is.1);
          step_up = omega (arith, is.2);
          step_low = omega (arith, is.2);
          before = λ d b. through_output_card l d g ∙ ne_eqb (18 + d % 8 / 4) l (λ e. omega (arith, is.0));
          beyond = λ d b hd. absurd (omega (arith, is.1));
          first_on = record { from = omega arith; column = λ g' h'. absurd (omega arith) };
          next_on = λ c on. record { from = omega (arith, on.from); column = λ g' h'. absurd (omega arith) };
          here = λ c b on. through_output_card l c g ∙ rw (le-ltb l 18 g);
          between = λ c on d a b. absurd (omega (arith, is.2));
        }
