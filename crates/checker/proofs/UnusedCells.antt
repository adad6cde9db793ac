-- The unused cells of a half that are not 0, as a row over a table of numbers. Stands because docs/PORT.md and docs/PORT-NAMES.md name
-- it; no function cites it today.
use Prim.Native.Nat.{ℕ, ◌+◌, ◌-◌, ◌*◌, ◌≤◌, ◌<◌}
use mathlib.Core.Path.{◌≡◌, sym, ◌∙◌, ap, subst}
use mathlib.Core.Bool.{true, false, not}
use mathlib.Core.List.{List}
use mathlib.Core.Logic.{◌⊎◌, inl, inr}
use native.Mathlib.Omega.{arith}
use lib.Dec.{ltb}
use lib.ListN.{get_or}
use borrow.Author.Tests.{lt-ltb, le-ltb}
use Rattle.laws.proofs.Search.{le_or_lt}
use Rattle.switch.specs.RequestRows.{above}
use Rattle.switch.specs.Rows.{Row, refusal, row_verdict}
use Rattle.switch.specs.Tables.{used_at, used_end, FirstAbove}
use Rattle.switch.specs.declared.verdict.Cause.TheVariants.{NotZero}
use Rattle.switch.proofs.Search.{Passed, Sought, sought_more, sought_refuses}
use Rattle.switch.proofs.Stretch.{used_before_end}
use Rattle.judging.specs.PlanRows.{cell_in}

module _ (m n half : ℕ) (xs : List ℕ) (place : ℕ → ℕ) where
  -- The row of the half's unused cells that are not 0 in a table.
  abbrev pub unused_row : Row
  unused_row =
      record {
        cause = NotZero;
        size = 32;
        offends = λ k. above (not (used_at m n (cell_in half k))) 0 (get_or xs (cell_in half k) 0);
        place = λ k. place (cell_in half k);
      }

  -- The search of the unused cells of the half's input i.
  module _ (i : ℕ) {end c : ℕ} (low : half < 2) (few : i < 4) (ends : end ≡ used_end m n (4 * half + i))
      (f : FirstAbove 0 end (8 * (4 * half + i) + 8) xs c) where
    split : (x : ℕ) → 8 * (4 * half + i) ≤ x → x < 8 * (4 * half + i) + 8 → used_at m n x ≡ ltb x end
    split x l h = used_before_end m n (4 * half + i) x (omega arith) l h ∙ ap (ltb x) (sym ends)

    passes : (k : ℕ) → 8 * i ≤ k → k < 8 * i + 8 → k < c - 32 * half → unused_row.offends k ≡ false
    passes k l h before = go (le_or_lt end (cell_in half k))
      where
        go : (end ≤ cell_in half k) ⊎ (cell_in half k < end) → unused_row.offends k ≡ false
        go (inl past) =
            rw (
              split (cell_in half k) (omega arith) (omega arith) ∙ le-ltb _ _ past,
              le-ltb 0 _ (f.earlier (cell_in half k) past (omega arith) (omega arith)),
            )
        go (inr used) = rw (split (cell_in half k) (omega arith) (omega arith) ∙ lt-ltb _ _ used)

    -- A cell that was found is one of the half's.
    in_half : c < 64 → cell_in half (c - 32 * half) ≡ c
    in_half h = omega (arith, ends, (f.here h).0)

    sought : Sought unused_row (8 * i) (8 * i + 8) (c - 32 * half)
    sought =
        record {
          earlier = passes;
          here = λ h.
              let small : c < 64 = omega arith in
              let found = f.here small in (
                omega (arith, ends, found.0),
                omega (arith, found.1),
                subst (λ x. above (not (used_at m n x)) 0 (get_or xs x 0) ≡ true) (sym (in_half small))
                    (rw (split c (omega (arith, ends, found.0)) found.1 ∙ le-ltb _ _ found.0, lt-ltb 0 _ found.2)),
              );
        }

    pub unused_more : Passed unused_row (8 * i) → 64 ≤ c → Passed unused_row (8 * (i + 1))
    unused_more p past = subst (Passed unused_row) (omega arith) (sought_more p sought (omega arith) (omega arith))

    pub unused_refuses : Passed unused_row (8 * i) → c < 64 → row_verdict unused_row ≡ refusal NotZero (place c)
    unused_refuses p h =
        sought_refuses p sought (omega (arith, (f.here h).1)) ∙ ap (λ x. refusal NotZero (place x)) (in_half h)
