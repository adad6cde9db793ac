-- What a list of rows refuses is the first of all faults that its rows notice, and where it refuses nothing they notice none.
use Prim.Native.Nat.{ℕ, suc, ◌≤◌, ◌<◌}
use mathlib.Core.Logic.{◌⊎◌, inl, inr}
use mathlib.Core.Path.{◌≡◌, sym, ◌∙◌, subst}
use mathlib.Core.Bool.{Bool, true, ◌&&◌}
use mathlib.Core.List.{List, [], ◌∷◌}
use native.Mathlib.Omega.{arith}
use lib.Dec.{leb}
use borrow.Author.Tests.{leb-true}
use Rattle.laws.proofs.Search.{le_or_lt, both_true, true_not_false}
use Rattle.switch.specs.Given.{numbers_of, Silent, First, Gives, NoLater}
use Rattle.switch.specs.Numbering.{number_of}
use Rattle.switch.specs.Rows.{Row, verdict_of}
use Rattle.switch.specs.declared.verdict.Verdict.TheVariants.{Accepted}
use Rattle.switch.proofs.Rising.{Rising}
use Rattle.switch.proofs.Rows.{Each, each_nil, each_cons, each_here, each_after, Named, verdict_at_lem, verdict_past, accepted_exactly, gives_named}
use Rattle.switch.proofs.Search.{at_of_first, nothing_of_silent, silent_or_first}

-- Numbers that go up, the first of them at least `least`.
unfoldable pub ascending : ℕ → List ℕ → Bool
ascending least [] = true
ascending least (k ∷ ks) = leb least k && ascending (suc k) ks

up_here : (least : ℕ) (row : Row) (rows : List Row) → ascending least (numbers_of (row ∷ rows)) ≡ true
    → (least ≤ number_of row.cause) × (ascending (suc (number_of row.cause)) (numbers_of rows) ≡ true)
unfolding ascending
up_here least row rows e =
    let k = number_of row.cause in
    let (here, after) = both_true (leb least k) (ascending (suc k) (numbers_of rows)) e in
    (leb-true least k here, after)

numbers_from : (rows : List Row) (least : ℕ) → ascending least (numbers_of rows) ≡ true
    → Each (λ row. least ≤ number_of row.cause) rows
numbers_from [] least up = each_nil _
numbers_from (row ∷ rows) least up =
    let (here, after) = up_here least row rows up in
    each_cons _ here (λ x m. let l = numbers_from rows (suc (number_of row.cause)) after x m in omega arith)

-- Nothing offends before the first offender.
first_before : {row : Row} {i : ℕ} → First row i → (j : ℕ) → row.offends j ≡ true → i ≤ j
first_before {row} {i} f j e = go (le_or_lt i j)
  where
    go : (i ≤ j) ⊎ (j < i) → i ≤ j
    go (inl l) = l
    go (inr l) = absurd (true_not_false e (f.earlier j l))

-- Whatever offends against one of the rows comes no earlier than what they refuse.
module _ {low high : ℕ} where
  offenders_later : (rows : List Row) (least : ℕ) → ascending least (numbers_of rows) ≡ true → Each (Rising low high) rows
      → (k p : ℕ) → Gives (verdict_of rows) k p → Each (Named (NoLater k p)) rows
  offenders_later [] least up rising k p g = each_nil _
  offenders_later (row ∷ rows) least up rising k p g =
      go (silent_or_first row) (offenders_later rows (suc (number_of row.cause)) after (each_after _ rising) k p)
    where
      after : ascending (suc (number_of row.cause)) (numbers_of rows) ≡ true
      after = (up_here least row rows up).1

      go : Silent row ⊎ ((i : ℕ) × First row i) → (Gives (verdict_of rows) k p → Each (Named (NoLater k p)) rows)
          → Each (Named (NoLater k p)) (row ∷ rows)
      go (inl s) later =
          each_cons _ (λ i h e. absurd (true_not_false e (s i h)))
          (later (rw (verdict_past row rows (nothing_of_silent row s)) at g))
      go (inr (i, f)) later =
          let (number, place) = rw (verdict_at_lem row rows i (at_of_first row f)) at g in
          let up = (each_here _ rising).places in
          each_cons _
          (λ j h e. inr (sym number, subst (λ x. x ≤ row.place j) place (up i j (first_before f j e) h).1))
          (λ x m j h e. inl (subst (λ n. n < number_of x.cause) number (numbers_from rows _ after x m)))

-- What they refuse stands between the bounds of their places.
pub given_between : {low high : ℕ} (rows : List Row) → Each (Rising low high) rows
    → (k p : ℕ) → Gives (verdict_of rows) k p → (low ≤ p) × (p ≤ high)
given_between {low} {high} rows rising =
    gives_named rows (λ k p. (low ≤ p) × (p ≤ high))
    (λ row m i h e. let between = (rising row m).places i i (omega arith) h in (between.0, between.2))

no_later_trans : (k p k' p' k'' p'' : ℕ) → NoLater k' p' k'' p'' → NoLater k p k' p' → NoLater k p k'' p''
no_later_trans k p k' p' k'' p'' (inl l) (inl m) = inl (omega arith)
no_later_trans k p k' p' k'' p'' (inl l) (inr (e, m)) = inl (omega arith)
no_later_trans k p k' p' k'' p'' (inr (e, l)) (inl m) = inl (omega arith)
no_later_trans k p k' p' k'' p'' (inr (e, l)) (inr (f, m)) = inr (f ∙ e, omega arith)

-- What holds of a number at a place holds of all that come no earlier.
abbrev pub Onward : (ℕ → ℕ → Type 0) → Type 0
Onward Q = (k p k' p' : ℕ) → NoLater k p k' p' → Q k p → Q k' p'

-- The rows notice such faults: every fault is an offender of theirs, or comes no earlier than one.
abbrev pub Noticed : List Row → (ℕ → ℕ → Type 0) → Type 1
Noticed rows Wrong = (Q : ℕ → ℕ → Type 0) → Onward Q → Each (Named Q) rows → (k p : ℕ) → Wrong k p → Q k p

-- So what is refused is the first of the faults,
pub first_of_noticed : {low high : ℕ} (rows : List Row) (Wrong : ℕ → ℕ → Type 0) → Noticed rows Wrong
    → ascending 0 (numbers_of rows) ≡ true → Each (Rising low high) rows
    → (k p : ℕ) → Gives (verdict_of rows) k p → (k' p' : ℕ) → Wrong k' p' → NoLater k p k' p'
first_of_noticed rows Wrong noticed up rising k p g k' p' =
    noticed (NoLater k p) (no_later_trans k p) (offenders_later rows 0 up rising k p g) k' p'

-- and where all is accepted there is none.
pub none_of_noticed : (rows : List Row) (Wrong : ℕ → ℕ → Type 0) → Noticed rows Wrong
    → verdict_of rows ≡ Accepted → (k p : ℕ) → Wrong k p → ⊥
none_of_noticed rows Wrong noticed accepted k p =
    noticed (λ k p. ⊥) (λ k p k' p' l none. none)
    (λ row m i h e. true_not_false e ((accepted_exactly rows).0 accepted row m i h)) k p
