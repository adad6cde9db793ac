-- The decimal form of a number: how it grows by a digit, what it says, and how long it is.
use Prim.Native.Nat.{ℕ, zero, suc, ◌+◌, ◌-◌, ◌*◌, ◌/◌, ◌%◌, ◌^◌, ◌≤◌, ◌<◌}
use mathlib.Core.Path.{◌≡◌, refl, sym, ◌∙◌, ap, subst}
use mathlib.Core.Logic.{◌⊎◌, inl, inr}
use mathlib.Core.List.Memᴰ
use mathlib.Core.List.{List, [], ◌∷◌, ◌++◌, Memᴰ}
use native.Mathlib.Nat.{not-suc-le-zero, pow-suc, div-lt_iff_lt-mul}
use native.Mathlib.Omega.{arith}
use lib.ListN.{length, get_or, length-append, get_or-append}
use borrow.Author.Tests.{lt-ltb, le-ltb}
use Rattle.laws.proofs.Search.{le_or_lt}
use Rattle.texts.specs.Decimal.{digits, decimal, read_on, Numeral}

digits_small : (k x : ℕ) → x < 10 → digits (suc k) x ≡ (48 + x) ∷ []
unfolding digits
digits_small k x h = rw (lt-ltb x 10 h, digits)

digits_large : (k x : ℕ) → 10 ≤ x → digits (suc k) x ≡ digits k (x / 10) ++ ((48 + x % 10) ∷ [])
unfolding digits
digits_large k x h = rw (le-ltb x 10 h, digits)

-- What holds of numbers below 10, and of a number if it holds of its tenth, holds of every number and its decimal form.
module _ (P : ℕ → List ℕ → Type 0) (small : (x : ℕ) → x < 10 → P x ((48 + x) ∷ []))
    (large : (x : ℕ) (t : List ℕ) → 10 ≤ x → P (x / 10) t → P x (t ++ ((48 + x % 10) ∷ []))) where
  by_depth : (k x : ℕ) → x < k → P x (digits k x)
  by_depth zero x h = absurd (not-suc-le-zero h)
  by_depth (suc k) x h = go (le_or_lt 10 x) (by_depth k (x / 10))
    where
      go : (10 ≤ x) ⊎ (x < 10) → (x / 10 < k → P (x / 10) (digits k (x / 10))) → P x (digits (suc k) x)
      go (inr l) tenth = subst (P x) (sym (digits_small k x l)) (small x l)
      go (inl l) tenth = subst (P x) (sym (digits_large k x l)) (large x _ l (tenth (omega arith)))

  pub by_digits : (x : ℕ) → P x (decimal x)
  unfolding decimal
  by_digits x = by_depth (suc x) x (omega arith)

-- Whatever the depth above it, the digits of a number are its decimal form.
any_depth : (x k : ℕ) → x < k → digits k x ≡ decimal x
any_depth = by_digits (λ x t. (k : ℕ) → x < k → digits k x ≡ t) small large
  where
    small : (x : ℕ) → x < 10 → (k : ℕ) → x < k → digits k x ≡ (48 + x) ∷ []
    small x h zero l = absurd (not-suc-le-zero l)
    small x h (suc k) l = digits_small k x h

    large : (x : ℕ) (t : List ℕ) → 10 ≤ x → ((k : ℕ) → x / 10 < k → digits k (x / 10) ≡ t) → (k : ℕ) → x < k
        → digits k x ≡ t ++ ((48 + x % 10) ∷ [])
    large x t h tenth zero l = absurd (not-suc-le-zero l)
    large x t h tenth (suc k) l = rw (digits_large k x h, tenth k (omega arith))

pub decimal_small : (x : ℕ) → x < 10 → decimal x ≡ (48 + x) ∷ []
unfolding decimal
decimal_small x h = digits_small x x h

pub decimal_large : (x : ℕ) → 10 ≤ x → decimal x ≡ decimal (x / 10) ++ ((48 + x % 10) ∷ [])
unfolding decimal
decimal_large x h = rw (digits_large x x h, any_depth (x / 10) x (omega arith))

pub length_small : (x : ℕ) → x < 10 → length (decimal x) ≡ 1
length_small x h = ap length (decimal_small x h)

pub length_large : (x : ℕ) → 10 ≤ x → length (decimal x) ≡ length (decimal (x / 10)) + 1
length_large x h = ap length (decimal_large x h) ∙ length-append (decimal (x / 10)) ((48 + x % 10) ∷ [])

read_on_last : (x : ℕ) (t : List ℕ) (b : ℕ) → read_on x (t ++ (b ∷ [])) ≡ 10 * read_on x t + (b - 48)
unfolding read_on
read_on_last x [] b = refl
read_on_last x (a ∷ t) b = read_on_last (10 * x + (a - 48)) t b

pub value_of_decimal : (x : ℕ) → read_on 0 (decimal x) ≡ x
unfolding read_on
value_of_decimal = by_digits (λ x t. read_on 0 t ≡ x) small large
  where
    small : (x : ℕ) → x < 10 → read_on 0 ((48 + x) ∷ []) ≡ x
    small x h = read_on_last 0 [] (48 + x) ∙ omega arith

    large : (x : ℕ) (t : List ℕ) → 10 ≤ x → read_on 0 t ≡ x / 10 → read_on 0 (t ++ ((48 + x % 10) ∷ [])) ≡ x
    large x t h tenth = read_on_last 0 t (48 + x % 10) ∙ omega arith

digits_alone : (x b : ℕ) → Memᴰ b (decimal x) → (48 ≤ b) × (b ≤ 57)
digits_alone = by_digits (λ x t. (b : ℕ) → Memᴰ b t → (48 ≤ b) × (b ≤ 57)) small large
  where
    last : {d b : ℕ} → d < 10 → b ≡ 48 + d → (48 ≤ b) × (b ≤ 57)
    last h e = (omega arith, omega arith)

    small : (x : ℕ) → x < 10 → (b : ℕ) → Memᴰ b ((48 + x) ∷ []) → (48 ≤ b) × (b ≤ 57)
    small x h b is = last h (Memᴰ.eq_of_singleton is)

    large : (x : ℕ) (t : List ℕ) → 10 ≤ x → ((b : ℕ) → Memᴰ b t → (48 ≤ b) × (b ≤ 57))
        → (b : ℕ) → Memᴰ b (t ++ ((48 + x % 10) ∷ [])) → (48 ≤ b) × (b ≤ 57)
    large x t h tenth b is = go (Memᴰ.append_cases t is)
      where
        go : Memᴰ b t ⊎ Memᴰ b ((48 + x % 10) ∷ []) → (48 ≤ b) × (b ≤ 57)
        go (inl early) = tenth b early
        go (inr late) = last (omega arith) (Memᴰ.eq_of_singleton late)

no_zero_in_front : (x : ℕ) → (0 < length (decimal x)) × (0 < x → 48 < get_or (decimal x) 0 0)
no_zero_in_front = by_digits (λ x t. (0 < length t) × (0 < x → 48 < get_or t 0 0)) small large
  where
    small : (x : ℕ) → x < 10 → (0 < 1) × (0 < x → 48 < 48 + x)
    small x h = (omega arith, λ l. omega arith)

    large : (x : ℕ) (t : List ℕ) → 10 ≤ x → (0 < length t) × (0 < x / 10 → 48 < get_or t 0 0)
        → (0 < length (t ++ ((48 + x % 10) ∷ []))) × (0 < x → 48 < get_or (t ++ ((48 + x % 10) ∷ [])) 0 0)
    large x t h (some, first) = (
      rw length-append (omega arith),
      λ l. rw (get_or-append t ((48 + x % 10) ∷ []) 0 0 some) (first (omega arith)),
    )

pub decimal_is_numeral : (x : ℕ) → Numeral x (decimal x)
decimal_is_numeral x =
    record {
      value = value_of_decimal x;
      each = digits_alone x;
      first = (no_zero_in_front x).1;
      zero = λ e. rw e (decimal_small 0 (omega arith));
    }

-- A number below 10 ^ k has at most k digits, if k is not 0.
pub short_decimal : (k x : ℕ) → x < 10 ^ suc k → length (decimal x) ≤ suc k
short_decimal zero x h = omega (arith, length_small x h)
short_decimal (suc k) x h = go (le_or_lt 10 x) (short_decimal k (x / 10))
  where
    go : (10 ≤ x) ⊎ (x < 10) → (x / 10 < 10 ^ suc k → length (decimal (x / 10)) ≤ suc k) → length (decimal x) ≤ suc (suc k)
    go (inr l) tenth = omega (arith, length_small x l)
    go (inl l) tenth =
        omega (arith, length_large x l, tenth ((div-lt_iff_lt-mul (omega arith)).1 (rw (pow-suc 10 (suc k)) at h)))
