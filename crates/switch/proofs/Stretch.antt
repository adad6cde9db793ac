-- The used ports of a side come first among its eight, and so do the used cells of an input: where they end, and what a
-- search of them, or of the others, says of the row.
use Prim.Native.Nat.{ℕ, ◌+◌, ◌*◌, ◌%◌, ◌≤◌, ◌<◌, min}
use mathlib.Core.Logic.{◌⊎◌, inl, inr}
use mathlib.Core.Path.{◌≡◌, refl, ◌∙◌, ap, sym, subst}
use mathlib.Core.Bool.{Bool, true, false, cond, not}
use mathlib.Core.List.{List}
use lib.Dec.{ltb}
use lib.ListN.{get_or, length, get_or-eq_default}
use native.Mathlib.Omega.{arith}
use borrow.Author.Tests.{lt-ltb, le-ltb, ltb-true, ltb-false}
use Rattle.laws.proofs.Search.{le_or_lt}
use Rattle.switch.specs.Cells.{input_of, output_of}
use Rattle.switch.specs.Tables.{used_at, used_end, FirstAbove, table_over}
use Rattle.switch.specs.declared.verdict.Cause.{Cause}
use Rattle.switch.proofs.Search.{Sought}
use Rattle.switch.proofs.Tests.{not_above_of_le}

pub end_of_unused : (m n u : ℕ) → m ≤ u → used_end m n u ≡ 8 * u
end_of_unused m n u h = ap (λ (b : Bool). 8 * u + cond b (min n 8) 0) (le-ltb u m h) ∙ omega arith

pub end_of-used : (m n u : ℕ) → u < m → used_end m n u ≡ 8 * u + min n 8
end_of-used m n u h = ap (λ (b : Bool). 8 * u + cond b (min n 8) 0) (lt-ltb u m h)

pub end_within : (m n u : ℕ) → used_end m n u ≤ 8 * u + 8
end_within m n u = go (le_or_lt m u)
  where
    go : (m ≤ u) ⊎ (u < m) → used_end m n u ≤ 8 * u + 8
    go (inl h) = omega (arith, end_of_unused m n u h)
    go (inr h) = omega (arith, end_of-used m n u h)

-- Of a side's ports, those before the count are used, and there are eight.
pub port_split : (count : ℕ) {end : ℕ} → end ≡ min count 8 → (k : ℕ) → 0 ≤ k → k < 8 → ltb k count ≡ ltb k end
port_split count {end} e k l h = go (le_or_lt count k)
  where
    go : (count ≤ k) ⊎ (k < count) → ltb k count ≡ ltb k end
    go (inl p) = le-ltb k count p ∙ sym (le-ltb k end (omega arith))
    go (inr p) = lt-ltb k count p ∙ sym (lt-ltb k end (omega arith))

-- Cell k is one of input u's.
module _ (m n u k : ℕ) (row : u < 8) (low : 8 * u ≤ k) (high : k < 8 * u + 8) where
  used_of : (b : Bool) → ltb (input_of k).0 m ≡ true → ltb (output_of k).0 n ≡ b → used_at m n k ≡ b
  used_of b i o = simp (lt-ltb k 64 (omega arith), i, o)

  unused_of : ltb (input_of k).0 m ≡ false → used_at m n k ≡ false
  unused_of i = simp (lt-ltb k 64 (omega arith), i)

  pub used_before_end : used_at m n k ≡ ltb k (used_end m n u)
  used_before_end = go (le_or_lt m u) (le_or_lt n (k % 8))
    where
      go : (m ≤ u) ⊎ (u < m) → (n ≤ k % 8) ⊎ (k % 8 < n) → used_at m n k ≡ ltb k (used_end m n u)
      go (inl h) o =
          unused_of (le-ltb (input_of k).0 m (omega arith))
          ∙ sym (le-ltb k (used_end m n u) (omega (arith, end_of_unused m n u h)))
      go (inr h) (inl o) =
          used_of false (lt-ltb (input_of k).0 m (omega arith)) (le-ltb (output_of k).0 n (omega arith))
          ∙ sym (le-ltb k (used_end m n u) (omega (arith, end_of-used m n u h)))
      go (inr h) (inr o) =
          used_of true (lt-ltb (input_of k).0 m (omega arith)) (lt-ltb (output_of k).0 n (omega arith))
          ∙ sym (lt-ltb k (used_end m n u) (omega (arith, end_of-used m n u h)))

not_true : (b : Bool) → not b ≡ true → b ≡ false
not_true true e = sym e
not_true false e = refl

-- A search of those numbers of a stretch of which the row speaks is a search of the whole stretch, from `first` on and before
-- `last`.
sought_part : {cause : Cause} (place : ℕ) {size most : ℕ} {xs : List ℕ} {counts : ℕ → Bool} {first last from to c : ℕ}
    → size ≤ 64
    → first ≤ from
    → to ≤ last
    → ((k : ℕ) → first ≤ k → k < last → counts k ≡ true → (from ≤ k) × (k < to))
    → ((k : ℕ) → from ≤ k → k < to → counts k ≡ true)
    → FirstAbove most from to xs c
    → Sought (table_over cause place size counts true most xs) first last c
sought_part place {most = most} {xs = xs} {counts = counts} {c = c} few low high only all f =
    record {
      earlier = λ k l h before.
          not_above_of_le (counts k) most (get_or xs k 0) (λ e. f.earlier k (only k l h e).0 (only k l h e).1 before);
      here = λ h.
          let found = f.here (omega arith) in
          (omega (arith, found.0), omega (arith, found.1), simp (all c found.0 found.1, lt-ltb most (get_or xs c 0) found.2));
    }

-- In the stretch the numbers before `end` are the used ones.
pub sought_stretch : {cause : Cause} (place : ℕ) {size most : ℕ} {xs : List ℕ} {is_used : ℕ → Bool} {first end last c : ℕ}
    → size ≤ 64
    → first ≤ end
    → end ≤ last
    → ((k : ℕ) → first ≤ k → k < last → is_used k ≡ ltb k end)
    → (used : Bool)
    → FirstAbove most (cond used first end) (cond used end last) xs c
    → Sought (table_over cause place size is_used used most xs) first last c
sought_stretch place {end = end} few low high split true f =
    sought_part place few (omega arith) high (λ k l h e. (l, ltb-true k end (sym (split k l h) ∙ e)))
    (λ k l h. split k l (omega arith) ∙ lt-ltb k end h) f
sought_stretch place {is_used = is_used} {end = end} few low high split false f =
    sought_part place {counts = λ k. not (is_used k)} few low (omega arith)
    (λ k l h e. (ltb-false k end (sym (split k l h) ∙ not_true (is_used k) e), h))
    (λ k l h. ap not (split k (omega arith) h ∙ le-ltb k end l)) f

-- One more number that is no more than `most`.
pub none_more : (xs : List ℕ) (most first c : ℕ) → ((k : ℕ) → first ≤ k → k < c → get_or xs k 0 ≤ most) → get_or xs c 0 ≤ most
    → (k : ℕ) → first ≤ k → k < c + 1 → get_or xs k 0 ≤ most
none_more xs most first c none here k l h = go (le_or_lt c k)
  where
    go : (c ≤ k) ⊎ (k < c) → get_or xs k 0 ≤ most
    go (inl e) = subst (λ (x : ℕ). get_or xs x 0 ≤ most) (omega arith) here
    go (inr e) = none k l e

-- Once all of a table that lies before `last` has been passed nothing before `last` is left: past its end a table counts as 0.
pub none_left : (xs : List ℕ) (most first last c : ℕ) → ((k : ℕ) → first ≤ k → k < c → get_or xs k 0 ≤ most)
    → min last (length xs) ≤ c
    → (k : ℕ)
    → first ≤ k
    → k < last
    → get_or xs k 0 ≤ most
none_left xs most first last c none all k l h = go (le_or_lt (length xs) k)
  where
    go : (length xs ≤ k) ⊎ (k < length xs) → get_or xs k 0 ≤ most
    go (inl e) = omega (arith, get_or-eq_default xs 0 e)
    go (inr e) = none k l (omega arith)
