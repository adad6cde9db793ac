-- The limits that a flow passes: two ports, and with cards two cards more, each once.
use Prim.Native.Nat.{ℕ, ◌+◌, ◌/◌, ◌%◌, ◌≤◌, ◌<◌}
use mathlib.Core.Path.{◌≡◌, refl, ◌∙◌}
use mathlib.Core.Bool.{Bool, true, false}
use mathlib.Core.Logic.{◌⊎◌, inl, inr}
use native.Mathlib.Omega.{arith}
use lib.Dec.{eqb}
use borrow.Author.Tests.{eq-eqb, ne_eqb, lt-ltb, le-ltb}
use Rattle.laws.proofs.Search.{le_or_lt}
use Rattle.fairness.specs.Total.{on}
use Rattle.planner.specs.Limits.{limits_of, through}

pub on_other : (i l x : ℕ) → (i ≡ l → ⊥) → on (eqb i l) x ≡ 0
on_other i l x n = rw (ne_eqb i l n)

pub on_same : (i x : ℕ) → on (eqb i i) x ≡ x
on_same i x = rw (eq-eqb i i refl)

-- Which limits a flow passes, one range of limits at a time.
module _ (l c : ℕ) where
  pub through_input : l < 8 → through l c ≡ eqb (c / 8) l
  unfolding through
  through_input h = rw (lt-ltb l 8 h)

  pub through_output : 8 ≤ l → l < 16 → through l c ≡ eqb (8 + c % 8) l
  unfolding through
  through_output g h = rw (le-ltb l 8 g, lt-ltb l 16 h)

  pub through_input_card : 16 ≤ l → l < 18 → through l c ≡ eqb (16 + c / 32) l
  unfolding through
  through_input_card g h = rw (le-ltb l 8 (omega arith), le-ltb l 16 g, lt-ltb l 18 h)

  pub through_output_card : 18 ≤ l → through l c ≡ eqb (18 + c % 8 / 4) l
  unfolding through
  through_output_card g = rw (le-ltb l 8 (omega arith), le-ltb l 16 (omega arith), le-ltb l 18 g)

-- What holds of the four ranges holds of every limit.
pub by_range : (Q : ℕ → Type 0) → ((l : ℕ) → l < 8 → Q l) → ((l : ℕ) → 8 ≤ l → l < 16 → Q l) → ((l : ℕ) → 16 ≤ l → l < 18 → Q l)
    → ((l : ℕ) → 18 ≤ l → l < 20 → Q l) → (l : ℕ) → l < 20 → Q l
by_range Q inputs outputs from to l h = go (le_or_lt 8 l) (le_or_lt 16 l) (le_or_lt 18 l)
  where
    go : (8 ≤ l) ⊎ (l < 8) → (16 ≤ l) ⊎ (l < 16) → (18 ≤ l) ⊎ (l < 18) → Q l
    go (inr a) b d = inputs l a
    go (inl a) (inr b) d = outputs l a b
    go (inl a) (inl b) (inr d) = from l b d
    go (inl a) (inl b) (inl d) = to l d h

pub few_limits : (cards : Bool) → (16 ≤ limits_of cards) × (limits_of cards ≤ 20)
few_limits true = (omega arith, omega arith)
few_limits false = (omega arith, omega arith)

module _ (c : ℕ) (low : c < 64) (x : ℕ) where
  -- The two ports of a flow, and its two cards, are all that it passes.
  pub on_ports : (l : ℕ) → l < 16 → on (through l c) x ≡ on (eqb (c / 8) l) x + on (eqb (8 + c % 8) l) x
  on_ports l h = go (le_or_lt 8 l)
    where
      go : (8 ≤ l) ⊎ (l < 8) → on (through l c) x ≡ on (eqb (c / 8) l) x + on (eqb (8 + c % 8) l) x
      go (inr a) = rw (through_input l c a, on_other (8 + c % 8) l x (λ e. omega arith)) (omega arith)
      go (inl a) = rw (through_output l c a h, on_other (c / 8) l x (λ e. omega arith)) (omega arith)

  pub on_cards : (l : ℕ) → l < 20
      → on (through l c) x
      ≡ on (eqb (c / 8) l) x + on (eqb (8 + c % 8) l) x + on (eqb (16 + c / 32) l) x + on (eqb (18 + c % 8 / 4) l) x
  on_cards =
      by_range (λ l. on (through l c) x
      ≡ on (eqb (c / 8) l) x + on (eqb (8 + c % 8) l) x + on (eqb (16 + c / 32) l) x + on (eqb (18 + c % 8 / 4) l) x)
      (λ l h. rw (
        through_input l c h,
        on_other (8 + c % 8) l x (λ e. omega arith),
        on_other (16 + c / 32) l x (λ e. omega arith),
        on_other (18 + c % 8 / 4) l x (λ e. omega arith),
      )
      (omega arith))
      (λ l g h. rw (
        through_output l c g h,
        on_other (c / 8) l x (λ e. omega arith),
        on_other (16 + c / 32) l x (λ e. omega arith),
        on_other (18 + c % 8 / 4) l x (λ e. omega arith),
      )
      (omega arith))
      (λ l g h. rw (
        through_input_card l c g h,
        on_other (c / 8) l x (λ e. omega arith),
        on_other (8 + c % 8) l x (λ e. omega arith),
        on_other (18 + c % 8 / 4) l x (λ e. omega arith),
      )
      (omega arith))
      (λ l g h. rw (
        through_output_card l c g,
        on_other (c / 8) l x (λ e. omega arith),
        on_other (8 + c % 8) l x (λ e. omega arith),
        on_other (16 + c / 32) l x (λ e. omega arith),
      )
      (omega arith))

module _ (c : ℕ) (low : c < 64) where
  pub passes_input : through (c / 8) c ≡ true
  passes_input = through_input (c / 8) c (omega arith) ∙ eq-eqb (c / 8) (c / 8) refl

  pub passes_output : through (8 + c % 8) c ≡ true
  passes_output = through_output (8 + c % 8) c (omega arith) (omega arith) ∙ eq-eqb (8 + c % 8) (8 + c % 8) refl

  pub passes_input_card : through (16 + c / 32) c ≡ true
  passes_input_card = through_input_card (16 + c / 32) c (omega arith) (omega arith) ∙ eq-eqb (16 + c / 32) (16 + c / 32) refl

  pub passes_output_card : through (18 + c % 8 / 4) c ≡ true
  passes_output_card = through_output_card (18 + c % 8 / 4) c (omega arith) ∙ eq-eqb (18 + c % 8 / 4) (18 + c % 8 / 4) refl
