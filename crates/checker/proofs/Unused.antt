-- The unused cells of a half of the plan, input by input: what a search of an input's says of the half's row.
use Prim.Native.Nat.{ℕ, zero, suc, ◌+◌, ◌-◌, ◌*◌, ◌≤◌, ◌<◌}
use mathlib.Core.Path.{◌≡◌, refl, sym, ◌∙◌, ap, subst}
use mathlib.Core.Bool.{Bool, true, false, not, ◌&&◌}
use mathlib.Core.Logic.{◌⊎◌, inl, inr}
use native.Mathlib.Omega.{arith}
use lib.Dec.{eqb, ltb}
use borrow.Author.Tests.{lt-ltb, le-ltb}
use Rattle.std.proofs.Common.{ne_eqb}
use Rattle.std.specs.Prelude.{Option}
use Rattle.std.specs.Option.{MatchOption, IsSomeAnd}
use Rattle.std.specs.declared.option.Option.TheVariants.{Some, None}
use Rattle.laws.proofs.Search.{le_or_lt}
use Rattle.switch.specs.Halves.{half_number}
use Rattle.switch.specs.Rows.{Row, refusal, row_verdict}
use Rattle.switch.specs.Tables.{used_at, used_end}
use Rattle.switch.specs.declared.plan.Half.{Half}
use Rattle.switch.specs.declared.plan.Half.TheVariants.{First, Second}
use Rattle.switch.proofs.Search.{passed_none, passed_on, row_refuses, row_accepts}
use Rattle.switch.proofs.Stretch.{used_before_end}
use Rattle.judging.specs.PlanRows.{cell_in}
use Rattle.checker.specs.Found.{FirstThat, refusal_of}

pub half_below : (half : Half) → half_number half < 2
half_below First = omega arith
half_below Second = omega arith

pub above_zero : (x : ℕ) → ltb 0 x ≡ not (eqb x 0)
above_zero zero = refl
above_zero (suc x) = lt-ltb 0 (suc x) (omega arith) ∙ sym (ap not (ne_eqb (suc x) 0 (omega arith)))

-- A cell that is unused and passes the test.
abbrev pub unused_that : ℕ → ℕ → (ℕ → Bool) → ℕ → Bool
unused_that m n test k = not (used_at m n k) && test k

-- The search of the unused cells of input u, which begin at `end`, goes on where others have passed.
module _ (m n u : ℕ) {end : ℕ} (low : u < 8) (ends : end ≡ used_end m n u) (test : ℕ → Bool) where
  split : (k : ℕ) → 8 * u ≤ k → k < 8 * u + 8 → used_at m n k ≡ ltb k end
  split k l h = used_before_end m n u k low l h ∙ ap (ltb k) (sym ends)

  passes : (k : ℕ) → 8 * u ≤ k → k < 8 * u + 8 → (end ≤ k → test k ≡ false) → unused_that m n test k ≡ false
  passes k l h none = go (le_or_lt end k)
    where
      go : (end ≤ k) ⊎ (k < end) → unused_that m n test k ≡ false
      go (inl past) = rw (split k l h ∙ le-ltb k end past, none past)
      go (inr used) = rw (split k l h ∙ lt-ltb k end used)

  module _ (first : ℕ) (passed : (k : ℕ) → first ≤ k → k < 8 * u → unused_that m n test k ≡ false) where
    up_to : (last : ℕ) → last ≤ 8 * u + 8 → ((k : ℕ) → end ≤ k → k < last → test k ≡ false)
        → (k : ℕ) → first ≤ k → k < last → unused_that m n test k ≡ false
    up_to last within none k l h = go (le_or_lt (8 * u) k)
      where
        go : (8 * u ≤ k) ⊎ (k < 8 * u) → unused_that m n test k ≡ false
        go (inl here) = passes k here (omega arith) (λ past. none k past h)
        go (inr before) = passed k l before

    pub unused_more : (found : Option ℕ) → found ≡ None → FirstThat end (8 * u + 8) test found
        → (k : ℕ) → first ≤ k → k < 8 * (u + 1) → unused_that m n test k ≡ false
    unused_more found e none k l h =
        up_to (8 * u + 8) (omega arith) (subst (FirstThat end (8 * u + 8) test) e none) k l (omega arith)

-- What the search of a half's cells says of a row of them.
module _ (row : Row) (half : ℕ) (test : ℕ → Bool) (size : row.size ≡ 32)
    (same : (k : ℕ) → k < 32 → row.offends k ≡ test (cell_in half k)) where
  pub half_row : (place : ℕ → ℕ) → ((k : ℕ) → row.place k ≡ place (cell_in half k)) → (found word : Option ℕ)
      → FirstThat (32 * half) (32 * half + 32) test found → (P : ℕ → ℕ → Type 0)
      → MatchOption found (word ≡ None) (λ c. IsSomeAnd word (P c))
      → ((c x : ℕ) → c < 32 * half + 32 → P c x → x ≡ place c) → refusal_of row.cause word ≡ row_verdict row
  half_row place at None word all P e is =
      ap (refusal_of row.cause) e
      ∙ sym (row_accepts
      (passed_on row.size (passed_none row) (omega arith)
      (λ k l h. same k (omega arith) ∙ all (cell_in half k) (omega arith) (omega arith))) (omega arith))
  half_row place at (Some c) (Some x) (low, high, here, before) P e is =
      let cell : cell_in half (c - 32 * half) ≡ c = omega arith in
      ap (refusal row.cause) (is c x high e ∙ ap place (sym cell) ∙ sym (at (c - 32 * half)))
      ∙ sym (row_refuses
      (passed_on (c - 32 * half) (passed_none row) (omega arith)
      (λ k l h. same k (omega arith) ∙ before (cell_in half k) (omega arith) (omega arith))) (omega arith)
      (same (c - 32 * half) (omega arith) ∙ subst (λ x. test x ≡ true) (sym cell) here))
  half_row place at (Some c) None sought P e is = absurd e
