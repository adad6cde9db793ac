-- Sums and largest numbers: taken one flow after another, and held against a number.
use Prim.Native.Nat.{ℕ, zero, suc, ◌+◌, ◌≤◌, ◌<◌, max}
use mathlib.Core.Path.{◌≡◌, refl, sym, ◌∙◌, ap, ap₂}
use mathlib.Core.Bool.{◌&&◌, and-false}
use mathlib.Core.Logic.{◌⊎◌, inl, inr}
use native.Mathlib.Numerals.{add-one}
use native.Mathlib.Omega.{arith}
use lib.Dec.{leb}
use borrow.Author.Tests.{le-leb, lt-leb}
use Rattle.laws.proofs.Search.{le_or_lt, true_of_both}
use Rattle.switch.specs.Rates.{sum_to}
use Rattle.switch.specs.Reason.{every}
use Rattle.worked.specs.Saturated.{capped, ports}
use Rattle.worked.specs.Port.{most_to, port_of}
use Rattle.worked.specs.declared.port.Port.{Port}

-- What is too large stays too large: a sum may be capped after every step or once at its end.
capped_plus : (s x : ℕ) → capped (capped s + x) ≡ capped (s + x)
capped_plus s x = omega arith

-- A walk over the flows f 0, f 1, .. has taken k of them.
abbrev pub Walked : ℕ → (ℕ → ℕ) → ℕ → ℕ → Type 0
Walked k f sum most = (sum ≡ capped (sum_to k f)) × (most ≡ most_to k f)

pub walked_none : (f : ℕ → ℕ) → Walked 0 f 0 0
unfolding sum_to most_to
walked_none f = (refl, refl)

pub walked_more : (k : ℕ) (f : ℕ → ℕ) {sum most x : ℕ} {port : Port} → Walked k f sum most → x ≡ f k
    → port ≡ record { sum = capped (sum + x); most = max most x } → Walked (k + 1) f port.sum port.most
unfolding sum_to most_to
walked_more k f so_far next taken =
    rw (add-one k, taken) (
      ap₂ (λ s x. capped (s + x)) so_far.0 next ∙ capped_plus (sum_to k f) (f k),
      ap₂ max so_far.1 next,
    )

pub walked_all : (n k : ℕ) (f : ℕ → ℕ) {sum most : ℕ} → k ≡ ports n → Walked k f sum most
    → record { sum = sum; most = most } ≡ port_of n f
walked_all n k f all so_far =
    let sum = rw all at so_far.0 in
    let most = rw all at so_far.1 in
    λ i. record { sum = sum i; most = most i }

leb-max : (a b x : ℕ) → leb (max a b) x ≡ (leb b x && leb a x)
leb-max a b x = go (le_or_lt a x) (le_or_lt b x)
  where
    go : (a ≤ x) ⊎ (x < a) → (b ≤ x) ⊎ (x < b) → leb (max a b) x ≡ (leb b x && leb a x)
    go (inl h) (inl l) = le-leb (max a b) x (omega arith) ∙ sym (true_of_both (le-leb b x l) (le-leb a x h))
    go (inr h) t = lt-leb (max a b) x (omega arith) ∙ sym (ap (λ t. leb b x && t) (lt-leb a x h) ∙ and-false (leb b x))
    go (inl h) (inr l) = lt-leb (max a b) x (omega arith) ∙ sym (rw (lt-leb b x l))

-- So one comparison with the largest number stands for a comparison with every number.
pub leb_most : (n : ℕ) (f : ℕ → ℕ) (x : ℕ) → leb (most_to n f) x ≡ every n (λ k. leb (f k) x)
unfolding most_to every
leb_most zero f x = le-leb 0 x (omega arith)
leb_most (suc n) f x = leb-max (most_to n f) (f n) x ∙ ap (λ t. leb (f n) x && t) (leb_most n f x)
