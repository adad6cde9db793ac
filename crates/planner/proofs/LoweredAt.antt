-- One entry of a table has less or more, and what that makes of the limits of one flow.
-- Stands because docs/PORT-NAMES.md names these; no function cites them today.
use Prim.Native.Nat.{ℕ, ◌+◌, ◌-◌, ◌/◌, ◌%◌, ◌≤◌, ◌<◌}
use mathlib.Core.Path.{◌≡◌, refl, sym, ap, ◌∙◌}
use mathlib.Core.Bool.{Bool, true, false}
use mathlib.Core.List.{List}
use mathlib.Core.Logic.{◌⊎◌, inl, inr}
use native.Mathlib.Omega.{arith}
use lib.Dec.{eqb}
use lib.ListN.{length, set, length-set}
use lib.Seq.{get_or-set_same, get_or-set_other}
use Rattle.laws.specs.Lists.{cells}
use Rattle.laws.proofs.Search.{eq_or_not}
use Rattle.fairness.specs.Total.{on}
use Rattle.switch.specs.Cells.{input_of, output_of, input_limit, output_limit}
use Rattle.switch.specs.declared.port.Input.{Input}
use Rattle.switch.specs.declared.port.Output.{Output}
use Rattle.planner.specs.Limits.{limits_of, through}
use Rattle.planner.specs.Tables.{Passed, Lowered}
use Rattle.planner.proofs.Passing.{few_limits, on_other, on_same, on_ports, on_cards}
use Rattle.planner.proofs.Passing.{passes_input, passes_output, passes_input_card, passes_output_card}

-- One entry has x less. Read from new to old it has x more.
pub record LoweredAt (i x : ℕ) (old new : List ℕ) : Type 0 where
  pub long : length new ≡ length old
  pub each : (l : ℕ) → cells new l + on (eqb i l) x ≡ cells old l

pub lowered_at : (i x : ℕ) (t : List ℕ) → i < length t → x ≤ cells t i → LoweredAt i x t (set t i (cells t i - x))
lowered_at i x t h le = record { long = length-set t i (cells t i - x); each = λ l. go l (eq_or_not i l) }
  where
    go : (l : ℕ) → (i ≡ l) ⊎ (i ≡ l → ⊥) → cells (set t i (cells t i - x)) l + on (eqb i l) x ≡ cells t l
    go l (inl e) = rw (← e, get_or-set_same t i (cells t i - x) 0 h, on_same i x) (omega arith)
    go l (inr n) =
        let other : l ≡ i → ⊥ = λ e. n (rw e refl) in
        rw (get_or-set_other t i l (cells t i - x) 0 other, on_other i l x n) (omega arith)

pub raised_at : (i x : ℕ) (t : List ℕ) → i < length t → LoweredAt i x (set t i (cells t i + x)) t
raised_at i x t h = record { long = sym (length-set t i (cells t i + x)); each = λ l. go l (eq_or_not i l) }
  where
    go : (l : ℕ) → (i ≡ l) ⊎ (i ≡ l → ⊥) → cells t l + on (eqb i l) x ≡ cells (set t i (cells t i + x)) l
    go l (inl e) = rw (← e, get_or-set_same t i (cells t i + x) 0 h, on_same i x)
    go l (inr n) =
        let other : l ≡ i → ⊥ = λ e. n (rw e refl) in
        rw (get_or-set_other t i l (cells t i + x) 0 other, on_other i l x n) (omega arith)

-- The tables differ at most in entry i.
pub record Only (i : ℕ) (old new : List ℕ) : Type 0 where
  pub long : length new ≡ length old
  pub each : (l : ℕ) → (i ≡ l → ⊥) → cells new l ≡ cells old l

pub only_lower : {i x : ℕ} {old new : List ℕ} → LoweredAt i x old new → Only i old new
only_lower {i} {x} by = record { long = by.long; each = λ l n. omega (arith, by.each l, on_other i l x n) }

pub only_higher : {i x : ℕ} {old new : List ℕ} → LoweredAt i x new old → Only i old new
only_higher {i} {x} by = record { long = sym by.long; each = λ l n. omega (arith, by.each l, on_other i l x n) }

-- The numbers of the two ports' limits, as calls work them out.
pub input_number : {c l : ℕ} {u : Input} → c < 64 → l ≡ input_limit u → u ≡ input_of c → l ≡ c / 8
input_number low limit of = omega (arith, limit ∙ ap input_limit of)

pub output_number : (c : ℕ) {l : ℕ} {v : Output} → l ≡ output_limit v → v ≡ output_of c → l ≡ 8 + c % 8
output_number c limit of = limit ∙ ap output_limit of

-- One limit after the other is changed. Each still has what it had, for they are different ones.
module _ {cards : Bool} {c : ℕ} (low : c < 64) {Fit : ℕ → Type 0} {t : List ℕ} (passed : Passed cards c Fit t) {i : ℕ}
    (input : i ≡ c / 8) where
  at : (l : ℕ) → l < limits_of cards → through l c ≡ true → (l < length t) × Fit (cells t l)
  at l h e = (omega (arith, passed.long, (few_limits cards).1), passed.each l h e)

  pub at_input : (i < length t) × Fit (cells t i)
  at_input = rw input (at (c / 8) (omega (arith, (few_limits cards).0)) (passes_input c low))

  module _ {t₁ : List ℕ} (one : Only i t t₁) {j : ℕ} (output : j ≡ 8 + c % 8) where
    pub at_output : (j < length t₁) × Fit (cells t₁ j)
    at_output =
        let w = at (8 + c % 8) (omega (arith, (few_limits cards).0)) (passes_output c low) in
        rw output (rw one.long w.0, rw (one.each (8 + c % 8) (λ e. omega arith)) w.1)

    module _ {t₂ : List ℕ} (two : Only j t₁ t₂) (with : cards ≡ true) where
      pub at_input_card : (16 + c / 32 < length t₂) × Fit (cells t₂ (16 + c / 32))
      at_input_card =
          let w = at (16 + c / 32) (rw with (omega arith)) (passes_input_card c low) in (
            rw (two.long, one.long) w.0,
            rw (two.each (16 + c / 32) (λ e. omega arith), one.each (16 + c / 32) (λ e. omega arith)) w.1,
          )

      pub at_output_card : {t₃ : List ℕ} → Only (16 + c / 32) t₂ t₃
          → (18 + c % 8 / 4 < length t₃) × Fit (cells t₃ (18 + c % 8 / 4))
      at_output_card three =
          let w = at (18 + c % 8 / 4) (rw with (omega arith)) (passes_output_card c low) in (
            rw (three.long, two.long, one.long) w.0,
            rw (
              three.each (18 + c % 8 / 4) (λ e. omega arith),
              two.each (18 + c % 8 / 4) (λ e. omega arith),
              one.each (18 + c % 8 / 4) (λ e. omega arith),
            )
                w.1,
          )

-- And in the end the flow's limits are lowered, each by x.
module _ {cards : Bool} {c x : ℕ} (low : c < 64) {old new : List ℕ} (long : (length old ≡ 20) × (length new ≡ 20)) {i j : ℕ}
    (input : i ≡ c / 8) (output : j ≡ 8 + c % 8) where
  pub lowered_ports : cards ≡ false → ((l : ℕ) → cells new l + (on (eqb i l) x + on (eqb j l) x) ≡ cells old l)
      → Lowered cards c x old new
  lowered_ports without by =
      record {
        long = long;
        each = λ l h.
            let h' : l < 16 = rw without at h in omega (arith, on_ports c low x l h', rw (input, output) at (by l));
      }

  pub lowered_cards : cards ≡ true
      → ((l : ℕ) → cells new l + (on (eqb i l) x + on (eqb j l) x + on (eqb (16 + c / 32) l) x + on (eqb (18 + c % 8 / 4) l) x)
      ≡ cells old l)
      → Lowered cards c x old new
  lowered_cards with by =
      record {
        long = long;
        each = λ l h. let h' : l < 20 = rw with at h in omega (arith, on_cards c low x l h', rw (input, output) at (by l));
      }
