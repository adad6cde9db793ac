-- The search for a number that passes a test.
use Prim.Native.Nat.{ℕ, zero, suc, ◌+◌, ◌<◌}
use mathlib.Core.Path.{◌≡◌, refl}
use mathlib.Core.Bool.{Bool, true, false, ◌||◌, true≢false, false≢true}
use native.Mathlib.Nat.{not-suc-le-zero}
use native.Mathlib.Numerals.{add-one}
use native.Mathlib.Omega.{arith}
use Rattle.fairness.specs.Filling.{some}
use Rattle.laws.proofs.Search.{below_suc}

neither : (s t : Bool) → (s || t) ≡ false → (s ≡ false) × (t ≡ false)
neither true t e = absurd (true≢false e)
neither false t e = (refl, e)

pub none_of_some : (n : ℕ) (test : ℕ → Bool) → some n test ≡ false → (i : ℕ) → i < n → test i ≡ false
unfolding some
none_of_some zero test e i h = absurd (not-suc-le-zero h)
none_of_some (suc n) test e i h =
    let both = neither (test n) (some n test) e in
    below_suc (λ j. test j ≡ false) n (none_of_some n test both.1) both.0 i h

pub some_alike : (n : ℕ) (s t : ℕ → Bool) → ((c : ℕ) → c < n → s c ≡ t c) → some n s ≡ some n t
unfolding some
some_alike zero s t same = refl
some_alike (suc n) s t same = rw (same n (omega arith), some_alike n s t (λ c h. same c (omega arith)))

pub some_next : (i : ℕ) (test : ℕ → Bool) → some (i + 1) test ≡ (test i || some i test)
unfolding some
some_next i test = rw (add-one i)

pub some_none : (n : ℕ) (test : ℕ → Bool) → ((i : ℕ) → i < n → test i ≡ false) → some n test ≡ false
unfolding some
some_none zero test each = refl
some_none (suc n) test each = rw (each n (omega arith)) (some_none n test (λ i h. each i (omega arith)))

pub one_of_some : (n : ℕ) (test : ℕ → Bool) → some n test ≡ true → (i : ℕ) × (i < n) × (test i ≡ true)
unfolding some
one_of_some zero test e = absurd (false≢true e)
one_of_some (suc n) test e = go (one_of_some n test) (test n) refl e
  where
    go : (some n test ≡ true → (i : ℕ) × (i < n) × (test i ≡ true)) → (b : Bool) → test n ≡ b → (b || some n test) ≡ true
        → (i : ℕ) × (i < suc n) × (test i ≡ true)
    go rest true t e = (n, (omega arith), t)
    go rest false t e = let w = rest e in (w.0, (let l = w.1 in omega arith), w.2)
