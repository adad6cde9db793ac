-- The lowest of several levels is at most each of them, and is one of them; and how the search goes on.
use Prim.Native.Nat.{ℕ, zero, suc, ◌+◌, ◌*◌, ◌≤◌, ◌<◌}
use mathlib.Core.Path.{◌≡◌, refl, sym, ap, ap₂, ◌∙◌}
use mathlib.Core.Bool.{Bool, true, false, cond}
use mathlib.Core.Logic.{◌⊎◌, inl, inr, ⊎_map}
use native.Mathlib.Nat.{not-suc-le-zero, le_refl, le_of_lt, mul-le-mul_right, le_of_mul-le-mul_right, eq-zero-or-pos, mul-zero, mul-pos}
use native.Mathlib.Numerals.{add-one}
use native.Mathlib.Omega.{arith}
use lib.Dec.{ltb}
use borrow.Author.Tests.{ltb-true, ltb-false, le-ltb}
use Rattle.fairness.specs.Filling.{Next, lower, lowest}
use Rattle.laws.proofs.Search.{below_suc}

-- a's level is at most b's
abbrev pub Below : Next → Next → Type 0
Below a b = a.high * b.parts ≤ b.high * a.parts

-- a level, or higher than every level, but not 0 over 0
abbrev pub Proper : Next → Type 0
Proper e = (0 < e.high) ⊎ (0 < e.parts)

pub below_trans : (a b c : Next) → Proper b → Below a b → Below b c → Below a c
below_trans a b c proper h l = go (eq-zero-or-pos b.parts) proper
  where
    cut : 0 < b.parts → Below a c
    cut pos =
        le_of_mul-le-mul_right {k = b.parts}
        (omega (arith, mul-le-mul_right c.parts h, mul-le-mul_right a.parts l)) pos

    go : (b.parts ≡ 0) ⊎ (0 < b.parts) → Proper b → Below a c
    go (inr pos) t = cut pos
    go (inl e) (inr pos) = cut pos
    go (inl e) (inl pos) = infinite (eq-zero-or-pos c.parts)
      where
        infinite : (c.parts ≡ 0) ⊎ (0 < c.parts) → Below a c
        infinite (inl z) = rw z (omega arith)
        infinite (inr q) = absurd (omega (arith, mul-pos pos q, ap (λ x. c.high * x) e))

pub record Lowest (n : ℕ) (f : ℕ → Next) (first e : Next) : Type 0 where
  pub proper : Proper e
  pub beyond : Below e first
  pub each : (i : ℕ) → i < n → Below e (f i)
  pub which : (e ≡ first) ⊎ ((i : ℕ) × (i < n) × (e ≡ f i) × (0 < (f i).parts))

-- ltb tells which of the two is the lower
lower_cases : (a b : Next) → ((lower a b ≡ a) × Below a b) ⊎ ((lower a b ≡ b) × Below b a × (0 < b.parts))
lower_cases a b = go (ltb (b.high * a.parts) (a.high * b.parts)) refl
  where
    go : (t : Bool) → ltb (b.high * a.parts) (a.high * b.parts) ≡ t
        → ((cond t b a ≡ a) × Below a b) ⊎ ((cond t b a ≡ b) × Below b a × (0 < b.parts))
    go true e = let h = ltb-true _ _ e in inr (refl, le_of_lt h, positive h (eq-zero-or-pos b.parts))
      where
        positive : b.high * a.parts < a.high * b.parts → (b.parts ≡ 0) ⊎ (0 < b.parts) → 0 < b.parts
        positive h (inl z) = absurd (omega (arith, ap (λ x. a.high * x) z, mul-zero a.high))
        positive h (inr pos) = pos
    go false e = inl (refl, ltb-false _ _ e)

pub lowest_is : (n : ℕ) (f : ℕ → Next) (first : Next) → Proper first → Lowest n f first (lowest n f first)
unfolding lowest
lowest_is zero f first proper =
    record { proper = proper; beyond = le_refl _; each = λ i h. absurd (not-suc-le-zero h); which = inl refl }
lowest_is (suc n) f first proper = go (lowest_is n f first proper) (lower_cases (lowest n f first) (f n))
  where
    go : Lowest n f first (lowest n f first)
        → ((lower (lowest n f first) (f n) ≡ lowest n f first) × Below (lowest n f first) (f n))
        ⊎ ((lower (lowest n f first) (f n) ≡ f n) × Below (f n) (lowest n f first) × (0 < (f n).parts))
        → Lowest (suc n) f first (lower (lowest n f first) (f n))
    go old (inl (e, h)) =
        rw e (record {
          proper = old.proper;
          beyond = old.beyond;
          each = below_suc (λ i. Below (lowest n f first) (f i)) n old.each h;
          which = ⊎_map (λ q. q) (λ w. (w.0, (let l = w.1 in omega arith), w.2, w.3)) old.which;
        })
    go old (inr (e, h, pos)) =
        rw e (record {
          proper = inr pos;
          beyond = below_trans (f n) (lowest n f first) first old.proper h old.beyond;
          each =
              below_suc (λ i. Below (f n) (f i)) n
              (λ i l. below_trans (f n) (lowest n f first) (f i) old.proper h (old.each i l)) (le_refl _);
          which = inr (n, (omega arith), refl, pos);
        })

-- One more in the search.
lowest_more : (n : ℕ) (f : ℕ → Next) (first : Next) → lowest (n + 1) f first ≡ lower (lowest n f first) (f n)
unfolding lowest
lowest_more n f first = rw (add-one n)

pub lowest_next : (n : ℕ) (f : ℕ → Next) (first best one : Next) → best ≡ lowest n f first → one ≡ f n
    → lower best one ≡ lowest (n + 1) f first
lowest_next n f first best one e d = ap₂ lower e d ∙ sym (lowest_more n f first)

-- Over 0 parts nothing is lower than what there is.
lower_none : (a b : Next) → b.parts ≡ 0 → lower a b ≡ a
lower_none a b z = rw (z, mul-zero a.high, le-ltb (b.high * a.parts) 0 (omega arith))

pub lowest_same : (n : ℕ) (f g : ℕ → Next) (first : Next)
    → ((i : ℕ) → i < n → (f i ≡ g i) ⊎ (((f i).parts ≡ 0) × ((g i).parts ≡ 0))) → lowest n f first ≡ lowest n g first
unfolding lowest
lowest_same zero f g first each = refl
lowest_same (suc n) f g first each = go (lowest_same n f g first (λ i h. each i (omega arith))) (each n (omega arith))
  where
    go : lowest n f first ≡ lowest n g first → (f n ≡ g n) ⊎ (((f n).parts ≡ 0) × ((g n).parts ≡ 0))
        → lower (lowest n f first) (f n) ≡ lower (lowest n g first) (g n)
    go rest (inl e) = ap₂ lower rest e
    go rest (inr (z, y)) = lower_none (lowest n f first) (f n) z ∙ rest ∙ sym (lower_none (lowest n g first) (g n) y)

pub lowest_none : (n : ℕ) (f : ℕ → Next) (first : Next) → ((i : ℕ) → i < n → (f i).parts ≡ 0) → lowest n f first ≡ first
unfolding lowest
lowest_none zero f first each = refl
lowest_none (suc n) f first each =
    lower_none (lowest n f first) (f n) (each n (omega arith)) ∙ lowest_none n f first (λ i h. each i (omega arith))
