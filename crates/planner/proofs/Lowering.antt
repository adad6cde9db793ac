-- Tables of the limits, changed at the limits of one flow: its two ports, and with cards its two cards.
use Prim.Native.Nat.{ℕ, ◌+◌, ◌/◌, ◌%◌, ◌≤◌, ◌<◌}
use mathlib.Core.Path.{◌≡◌, refl, sym, ap, ◌∙◌, subst}
use mathlib.Core.Bool.{Bool, true, false}
use mathlib.Core.List.{List}
use mathlib.Core.Logic.{◌⊎◌, inl, inr}
use native.Mathlib.Omega.{arith}
use lib.Dec.{eqb}
use lib.ListN.{length, set, length-set}
use lib.Seq.{get_or-set_same, get_or-set_other}
use Rattle.laws.specs.Lists.{cells}
use Rattle.laws.proofs.Search.{eq_or_not}
use Rattle.fairness.specs.Total.{on}
use Rattle.planner.specs.Limits.{limits_of, through}
use Rattle.planner.specs.Tables.{Passed, Changed}
use Rattle.planner.proofs.Passing.{few_limits, on_other, on_same, on_ports, on_cards}
use Rattle.planner.proofs.Passing.{passes_input, passes_output, passes_input_card, passes_output_card}

-- How far the changes have come: an entry that was hit is as `To` says, and any other as it was.
pub record Hit (hits : ℕ → ℕ) (To : ℕ → ℕ → Type 0) (old new : List ℕ) : Type 0 where
  pub long : length new ≡ length old
  pub passed : (l : ℕ) → 0 < hits l → To (cells old l) (cells new l)
  pub others : (l : ℕ) → hits l ≡ 0 → cells new l ≡ cells old l

pub hit_none : (To : ℕ → ℕ → Type 0) (t : List ℕ) → Hit (λ l. 0) To t t
hit_none To t = record { long = refl; passed = λ l h. absurd (omega arith); others = λ l e. refl }

pub hit_next : {hits : ℕ → ℕ} {To : ℕ → ℕ → Type 0} {old new : List ℕ} → Hit hits To old new → (i : ℕ) → i < length old → hits i ≡ 0
    → (y : ℕ) → To (cells new i) y → Hit (λ l. hits l + on (eqb i l) 1) To old (set new i y)
hit_next {hits} {To} {old} {new} so_far i low fresh y to =
    record {
      long = length-set new i y ∙ so_far.long;
      passed = λ l h. passed l h (eq_or_not i l);
      others = λ l e. others l e (eq_or_not i l);
    }
  where
    there : i < length new
    there = rw so_far.long low

    passed : (l : ℕ) → 0 < hits l + on (eqb i l) 1 → (i ≡ l) ⊎ (i ≡ l → ⊥) → To (cells old l) (cells (set new i y) l)
    passed l h (inl e) =
        rw (← e, get_or-set_same new i y 0 there) (subst (λ x. To x y) (so_far.others i fresh) to)
    passed l h (inr n) =
        let other : l ≡ i → ⊥ = λ e. n (sym e) in
        let before : 0 < hits l = omega (arith, on_other i l 1 n) in
        rw (get_or-set_other new i l y 0 other) (so_far.passed l before)

    others : (l : ℕ) → hits l + on (eqb i l) 1 ≡ 0 → (i ≡ l) ⊎ (i ≡ l → ⊥) → cells (set new i y) l ≡ cells old l
    others l e (inl q) =
        let here : on (eqb i l) 1 ≡ 1 = ap (λ k. on (eqb i k) 1) (sym q) ∙ on_same i 1 in absurd (omega (arith, here, e))
    others l e (inr n) =
        let other : l ≡ i → ⊥ = λ q. n (sym q) in get_or-set_other new i l y 0 other ∙ so_far.others l (omega arith)

-- The limits are changed one after the other: the input's, the output's, and those of their cards.
module _ {cards : Bool} {c : ℕ} {Fit : ℕ → Type 0} (To : ℕ → ℕ → Type 0) (low : c < 64) {t : List ℕ} (passed : Passed cards c Fit t)
    {i : ℕ} (input : i ≡ c / 8) where
  -- a limit that is not hit yet is as it was
  fits : {hits : ℕ → ℕ} {new : List ℕ} → Hit hits To t new → (k : ℕ) → k < limits_of cards → through k c ≡ true → hits k ≡ 0
      → (k < length t) × Fit (cells new k)
  fits so_far k h m fresh = (
    omega (arith, passed.long, (few_limits cards).1),
    rw (so_far.others k fresh) (passed.each k h m),
  )

  changed : {hits : ℕ → ℕ} {new : List ℕ} → Hit hits To t new → ((l : ℕ) → l < limits_of cards → on (through l c) 1 ≡ hits l)
      → Changed cards c To t new
  changed hit is =
      record {
        long = (passed.long, hit.long ∙ passed.long);
        passed = λ l h e. hit.passed l (let one : on true 1 ≡ _ = rw e at (is l h) in omega arith);
        others = λ l h e. hit.others l (let none : on false 1 ≡ _ = rw e at (is l h) in omega arith);
      }

  first : (i < length t) × Fit (cells t i)
  first =
      fits (hit_none To t) i (omega (arith, input, (few_limits cards).0)) (rw input (passes_input c low)) refl

  pub at_input : Fit (cells t i)
  at_input = first.1

  module _ (y₁ : ℕ) (to₁ : To (cells t i) y₁) {j : ℕ} (output : j ≡ 8 + c % 8) where
    -- an input's limit is none of an output's
    apart : i ≡ j → ⊥
    apart e = omega (arith, input, output)

    one : Hit (λ l. 0 + on (eqb i l) 1) To t (set t i y₁)
    one = hit_next (hit_none To t) i first.0 refl y₁ to₁

    second : (j < length t) × Fit (cells (set t i y₁) j)
    second =
        fits one j (omega (arith, output, (few_limits cards).0)) (rw output (passes_output c low))
        (omega (arith, on_other i j 1 apart))

    pub at_output : Fit (cells (set t i y₁) j)
    at_output = second.1

    module _ (y₂ : ℕ) (to₂ : To (cells (set t i y₁) j) y₂) where
      abbrev t₂ : List ℕ
      t₂ = set (set t i y₁) j y₂

      two : Hit (λ l. 0 + on (eqb i l) 1 + on (eqb j l) 1) To t t₂
      two = hit_next one j second.0 (omega (arith, on_other i j 1 apart)) y₂ to₂

      pub changed_ports : cards ≡ false → Changed cards c To t t₂
      changed_ports without =
          changed two (λ l h. let h' : l < 16 = rw without at h in rw (input, output) (omega (arith, on_ports c low 1 l h')))

      module _ (with : cards ≡ true) where
        abbrev k : ℕ
        k = 16 + c / 32

        abbrev m : ℕ
        m = 18 + c % 8 / 4

        past_ports : (l : ℕ) → 16 ≤ l → 0 + on (eqb i l) 1 + on (eqb j l) 1 ≡ 0
        past_ports l h = omega (arith, on_other i l 1 (λ e. omega (arith, input)), on_other j l 1 (λ e. omega (arith, output)))

        third : (k < length t) × Fit (cells t₂ k)
        third = fits two k (rw with (omega arith)) (passes_input_card c low) (past_ports k (omega arith))

        pub at_input_card : Fit (cells t₂ k)
        at_input_card = third.1

        module _ (y₃ : ℕ) (to₃ : To (cells t₂ k) y₃) where
          three : Hit (λ l. 0 + on (eqb i l) 1 + on (eqb j l) 1 + on (eqb k l) 1) To t (set t₂ k y₃)
          three = hit_next two k third.0 (past_ports k (omega arith)) y₃ to₃

          past_cards : 0 + on (eqb i m) 1 + on (eqb j m) 1 + on (eqb k m) 1 ≡ 0
          past_cards = omega (arith, past_ports m (omega arith), on_other k m 1 (λ e. omega arith))

          fourth : (m < length t) × Fit (cells (set t₂ k y₃) m)
          fourth = fits three m (rw with (omega arith)) (passes_output_card c low) past_cards

          pub at_output_card : Fit (cells (set t₂ k y₃) m)
          at_output_card = fourth.1

          pub changed_cards : (y₄ : ℕ) → To (cells (set t₂ k y₃) m) y₄ → Changed cards c To t (set (set t₂ k y₃) m y₄)
          changed_cards y₄ to₄ =
              changed (hit_next three m fourth.0 past_cards y₄ to₄)
              (λ l h. let h' : l < 20 = rw with at h in rw (input, output) (omega (arith, on_cards c low 1 l h')))
