-- Euclid's algorithm finds the greatest common divisor, and that is unique and scales.
use Prim.Native.Nat.{ℕ, zero, suc, ◌+◌, ◌*◌, ◌/◌, ◌%◌, ◌<◌, ◌∣◌}
use mathlib.Core.Path.{◌≡◌, ap}
use mathlib.Core.List.{List, [], ◌∷◌}
use native.Mathlib.Nat.{dvd_refl, dvd-zero, dvd_trans, dvd-mul_right_of_dvd, dvd-mod_iff, dvd-add_iff_right, dvd_antisymm}
use native.Mathlib.Nat.{mul-dvd-mul_left, div-add-mod, mul_assoc, one-mul, mod-lt, not-suc-le-zero}
use native.Mathlib.Omega.{arith}
use Rattle.fairness.specs.Divisor.{euclid, gcd, gcd_of, Gcd, GcdOf}

divides_rest : (n d a b : ℕ) → d ∣ n * a → d ∣ n * b → d ∣ n * (a % b)
divides_rest n d a b ha hb =
    let split : n * a ≡ n * b * (a / b) + n * (a % b) = omega (arith, ap (λ t. n * t) (div-add-mod a b)) in
    (dvd-add_iff_right d (dvd-mul_right_of_dvd d hb (a / b))).1 (rw split at ha)

-- n bounds the steps: the second argument falls with each.
euclid_is : (n a b : ℕ) → b < n → Gcd a b (euclid n a b)
unfolding euclid
euclid_is zero a b h = absurd (not-suc-le-zero h)
euclid_is (suc n) a zero h = record { left = dvd_refl a; right = dvd-zero a; most = λ n d ha hb. ha }
euclid_is (suc n) a (suc b) h =
    let r = euclid_is n (suc b) (a % suc b) (omega (arith, mod-lt a {m = suc b} (omega arith))) in
    record {
      left = (dvd-mod_iff _ r.left).0 r.right;
      right = r.left;
      most = λ n d ha hb. r.most n d hb (divides_rest n d a (suc b) ha hb);
    }

pub gcd_is : (a b : ℕ) → Gcd a b (gcd a b)
unfolding gcd
gcd_is a b = euclid_is (suc b) a b (omega arith)

-- The record says what a greatest common divisor is: any other algorithm's answer is the same number.
pub gcd_unique : {a b g h : ℕ} → Gcd a b g → Gcd a b h → g ≡ h
gcd_unique {a} {b} {g} {h} p q = dvd_antisymm (divides p q) (divides q p)
  where
    divides : {g h : ℕ} → Gcd a b g → Gcd a b h → g ∣ h
    divides {g} p q = rw one-mul at (q.most 1 g (rw one-mul p.left) (rw one-mul p.right))

pub gcd_comm : (a b : ℕ) → gcd a b ≡ gcd b a
gcd_comm a b = gcd_unique (gcd_is a b) (record { left = r.right; right = r.left; most = λ n d ha hb. r.most n d hb ha })
  where
    r : Gcd b a (gcd b a)
    r = gcd_is b a

pub gcd_scale : (n a b : ℕ) → gcd (n * a) (n * b) ≡ n * gcd a b
gcd_scale n a b = gcd_unique (gcd_is (n * a) (n * b)) (record {
  left = mul-dvd-mul_left _ n r.left;
  right = mul-dvd-mul_left _ n r.right;
  most = λ m d ha hb. rw (← mul_assoc) (r.most (m * n) d (rw mul_assoc ha) (rw mul_assoc hb));
})
  where
    r : Gcd a b (gcd a b)
    r = gcd_is a b

pub gcd_of_is : (b : ℕ) (xs : List ℕ) → GcdOf b xs (gcd_of b xs)
unfolding gcd_of
gcd_of_is b [] = record { base = dvd_refl b; each = λ i. dvd-zero b; most = λ n d hb hx. hb }
gcd_of_is b (x ∷ xs) =
    let here = gcd_is b x in
    let rest = gcd_of_is (gcd b x) xs in
    record {
      base = dvd_trans _ rest.base here.left;
      each = elim [ zero ↦ dvd_trans _ rest.base here.right | suc i ↦ rest.each i ];
      most = λ n d hb hx. rest.most n d (here.most n d hb (hx 0 (omega arith))) (λ i h. hx (suc i) (omega arith));
    }

pub gcd_of_unique : {b g h : ℕ} {xs : List ℕ} → GcdOf b xs g → GcdOf b xs h → g ≡ h
gcd_of_unique {b} {g} {h} {xs} p q = dvd_antisymm (divides p q) (divides q p)
  where
    divides : {g h : ℕ} → GcdOf b xs g → GcdOf b xs h → g ∣ h
    divides {g} p q = rw one-mul at (q.most 1 g (rw one-mul p.base) (λ i l. rw one-mul (p.each i)))
