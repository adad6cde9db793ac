-- The search for a row's first offender: what it finds, and the laws that every searching loop cites.
use Prim.Native.Nat.{ℕ, zero, suc, ◌+◌, ◌≤◌, ◌<◌}
use mathlib.Core.Logic.{◌⊎◌, inl, inr}
use mathlib.Core.Path.{◌≡◌, refl, ◌∙◌, subst}
use mathlib.Core.Bool.{Bool, true, false}
use native.Mathlib.Omega.{arith}
use borrow.Author.Count.{below_none, below_more}
use Rattle.laws.proofs.Search.{le_or_lt}
use Rattle.switch.specs.Given.{Silent, First}
use Rattle.switch.specs.Rows.{Row, at, nothing, first_from, first_of, refusal, row_verdict}
use Rattle.switch.specs.declared.verdict.Cause.{Cause}
use Rattle.switch.specs.declared.verdict.Verdict.TheVariants.{Accepted}

module _ (test : ℕ → Bool) where
  first_from_true : (k i : ℕ) → test i ≡ true → first_from (suc k) i test ≡ at i
  unfolding first_from
  first_from_true k i e = rw (e, first_from)

  first_from_false : (k i : ℕ) → test i ≡ false → first_from (suc k) i test ≡ first_from k (suc i) test
  unfolding first_from
  first_from_false k i e = rw (e, first_from)

  -- `d` is how far the offender is ahead of `i`
  first_from_at : (k i d j : ℕ) → i + d ≡ j → d < k
      → ((l : ℕ) → l < j → test l ≡ false) → test j ≡ true → first_from k i test ≡ at j
  first_from_at zero i d j ahead near none here = absurd (omega arith)
  first_from_at (suc k) i zero j ahead near none here =
      let e : j ≡ i = omega arith in
      subst (λ (x : ℕ). first_from (suc k) x test ≡ at j) e (first_from_true k j here)
  first_from_at (suc k) i (suc d) j ahead near none here =
      first_from_false k i (none i (omega arith)) ∙ first_from_at k (suc i) d j (omega arith) (omega arith) none here

  first_from_nothing : (k i : ℕ) → ((l : ℕ) → l < i + k → test l ≡ false) → first_from k i test ≡ nothing
  unfolding first_from
  first_from_nothing zero i none = refl
  first_from_nothing (suc k) i none =
      first_from_false k i (none i (omega arith)) ∙ first_from_nothing k (suc i) (λ l h. none l (omega arith))

pub at_of_first : (row : Row) {i : ℕ} → First row i → first_of row ≡ at i
at_of_first row {i} f = first_from_at row.offends row.size 0 i i (omega arith) f.below f.earlier f.here

pub nothing_of_silent : (row : Row) → Silent row → first_of row ≡ nothing
nothing_of_silent row s = first_from_nothing row.offends row.size 0 (λ l h. s l (omega arith))

-- How far a search has come: no candidate below `i` offends.
pub record Passed (row : Row) (i : ℕ) : Type 0 where
  pub within : i ≤ row.size
  pub none : (k : ℕ) → k < i → row.offends k ≡ false

pub passed_none : (row : Row) → Passed row 0
passed_none row = record { within = omega arith; none = below_none _ }

pub passed_more : {row : Row} {i : ℕ} → Passed row i → i < row.size → row.offends i ≡ false → Passed row (i + 1)
passed_more {row} {i} p h e = record { within = omega arith; none = below_more _ i p.none e }

-- Candidates that do not offend are passed, however many.
pub passed_on : {row : Row} {i : ℕ} (j : ℕ) → Passed row i → j ≤ row.size
    → ((k : ℕ) → i ≤ k → k < j → row.offends k ≡ false)
    → Passed row j
passed_on {row} {i} j p h none = record { within = h; none = λ k l. go k l (le_or_lt i k) }
  where
    go : (k : ℕ) → k < j → (i ≤ k) ⊎ (k < i) → row.offends k ≡ false
    go k l (inl e) = none k e l
    go k l (inr e) = p.none k e

pub row_refuses : {row : Row} {i : ℕ} → Passed row i → i < row.size → row.offends i ≡ true
    → row_verdict row ≡ refusal row.cause (row.place i)
unfolding row_verdict
row_refuses {row} {i} p h e = rw (at_of_first row (record { below = h; here = e; earlier = p.none }))

pub row_accepts : {row : Row} {i : ℕ} → Passed row i → row.size ≤ i → row_verdict row ≡ Accepted
unfolding row_verdict
row_accepts {row} {i} p h = rw (nothing_of_silent row (λ k l. p.none k (omega arith)))

-- A search of the candidates from i on and before j: c is the first of them that offends, or is no candidate if none does.
pub record Sought (row : Row) (i j c : ℕ) : Type 0 where
  pub earlier : (k : ℕ) → i ≤ k → k < j → k < c → row.offends k ≡ false
  pub here : c < row.size → (i ≤ c) × (c < j) × (row.offends c ≡ true)

pub sought_more : {row : Row} {i j c : ℕ} → Passed row i → Sought row i j c → j ≤ row.size → row.size ≤ c → Passed row j
sought_more {row} {i} {j} {c} p s h past = passed_on j p h (λ k l m. s.earlier k l m (omega arith))

pub sought_refuses : {row : Row} {i j c : ℕ} → Passed row i → Sought row i j c → c < row.size
    → row_verdict row ≡ refusal row.cause (row.place c)
sought_refuses {row} {i} {j} {c} p s h =
    let found = s.here h in
    row_refuses (passed_on c p (omega arith) (λ k l m. s.earlier k l (omega (arith, found.1)) m)) h found.2

-- Of the first `n` candidates none offends, or one is the row's first offender.
searched : (row : Row) (n : ℕ) → n ≤ row.size → ((k : ℕ) → k < n → row.offends k ≡ false) ⊎ ((i : ℕ) × First row i)
searched row zero h = inl (λ k l. absurd (omega arith))
searched row (suc n) h = go (searched row n (omega arith)) (row.offends n) refl
  where
    go : ((k : ℕ) → k < n → row.offends k ≡ false) ⊎ ((i : ℕ) × First row i)
        → (b : Bool)
        → row.offends n ≡ b
        → ((k : ℕ) → k < suc n → row.offends k ≡ false) ⊎ ((i : ℕ) × First row i)
    go (inr f) b e = inr f
    go (inl s) true e = inr (n, record { below = h; here = e; earlier = s })
    go (inl s) false e = inl (λ k l. below_more _ n s e k (omega arith))

pub silent_or_first : (row : Row) → Silent row ⊎ ((i : ℕ) × First row i)
silent_or_first row = searched row row.size (omega arith)

-- Rows that differ in nothing but their tests say the same if the tests agree on every candidate.
pub same_row : (cause : Cause) (size : ℕ) (place : ℕ → ℕ) (f g : ℕ → Bool) → ((i : ℕ) → i < size → f i ≡ g i)
    → row_verdict (record { cause = cause; size = size; offends = f; place = place })
    ≡ row_verdict (record { cause = cause; size = size; offends = g; place = place })
unfolding row_verdict
same_row cause size place f g same = go (silent_or_first other)
  where
    one : Row
    one = record { cause = cause; size = size; offends = f; place = place }

    other : Row
    other = record { cause = cause; size = size; offends = g; place = place }

    go : Silent other ⊎ ((i : ℕ) × First other i) → row_verdict one ≡ row_verdict other
    go (inl s) = rw (nothing_of_silent one (λ i h. same i h ∙ s i h), nothing_of_silent other s)
    go (inr (i, a)) =
        rw (
          at_of_first one
              (record {
                below = a.below;
                here = same i a.below ∙ a.here;
                earlier = λ k l. same k (let h = a.below in omega arith) ∙ a.earlier k l;
              }),
          at_of_first other a,
        )
