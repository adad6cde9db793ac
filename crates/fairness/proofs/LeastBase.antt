-- A base and numerators, divided by their greatest common divisor, have the least base of all that give the same rates.
use Prim.Native.Nat.{ℕ, ◌*◌, ◌/◌, ◌≤◌, ◌<◌, ◌∣◌}
use mathlib.Core.Path.{◌≡◌, ap, ◌∙◌}
use mathlib.Core.List.{List}
use native.Mathlib.Nat.{div-mul_cancel, dvd-mul_left, dvd-mul_right, dvd_of_mul-dvd-mul_right, eq_of_mul-eq-mul_right, le_antisymm, le_of_dvd}
use native.Mathlib.Nat.{mul_comm, pos_of_dvd_of_pos, zero-div}
use native.Mathlib.Omega.{arith}
use lib.ListN.{length, get_or, get_or-map}
use Rattle.fairness.specs.Divisor.{divided, GcdOf}

-- Division changes no rate. Here and below g is any greatest common divisor, so that a program may find it in its own way.
pub divided_same : {b g : ℕ} {xs : List ℕ} → GcdOf b xs g → (i : ℕ) → get_or xs i 0 / g * b ≡ get_or xs i 0 * (b / g)
divided_same {b} {g} {xs} r i =
    omega (arith, ap (λ k. get_or xs i 0 / g * k) (div-mul_cancel g r.base), ap (λ k. k * (b / g)) (div-mul_cancel g (r.each i)))

pub divided_pos : {b g : ℕ} {xs : List ℕ} → GcdOf b xs g → 0 < b → 0 < b / g
divided_pos {b} {g} r pos = pos_of_dvd_of_pos (dvd-mul_right (b / g) g) (rw (div-mul_cancel g r.base) pos)

-- Every base of the same rates is a multiple of the divided one: b divides b' times the base and b' times each numerator,
-- hence b' times g.
pub divided_least : {b g : ℕ} {xs : List ℕ} → GcdOf b xs g → 0 < b → (b' : ℕ) (y : ℕ → ℕ)
    → ((i : ℕ) → i < length xs → get_or xs i 0 * b' ≡ y i * b) → b / g ∣ b'
divided_least {b} {g} {xs} r pos b' y same =
    dvd_of_mul-dvd-mul_right (b / g) (pos_of_dvd_of_pos r.base pos)
    (rw (div-mul_cancel g r.base) (r.most b' b (dvd-mul_left b b') each))
  where
    each : (i : ℕ) → i < length xs → b ∣ b' * get_or xs i 0
    each i h = rw (mul_comm, same i h) (dvd-mul_left b (y i))

pub divided-le : {b g : ℕ} {xs : List ℕ} → GcdOf b xs g → 0 < b → (b' : ℕ) (y : ℕ → ℕ) → 0 < b'
    → ((i : ℕ) → i < length xs → get_or xs i 0 * b' ≡ y i * b) → b / g ≤ b'
divided-le r pos b' y pos' same = le_of_dvd pos' (divided_least r pos b' y same)

-- Two plans of the same rates and both of the least base are the same numbers.
pub least_unique : (n b₁ b₂ : ℕ) (x₁ x₂ : ℕ → ℕ) → 0 < b₁ → ((i : ℕ) → i < n → x₁ i * b₂ ≡ x₂ i * b₁)
    → b₁ ≤ b₂ → b₂ ≤ b₁ → (b₁ ≡ b₂) × ((i : ℕ) → i < n → x₁ i ≡ x₂ i)
least_unique n b₁ b₂ x₁ x₂ pos same h k =
    let e : b₁ ≡ b₂ = le_antisymm h k in
    (e, λ i l. eq_of_mul-eq-mul_right b₁ pos (x₁ i) (x₂ i) (ap (λ b. x₁ i * b) e ∙ same i l))

pub get_or-divided : (xs : List ℕ) (g i : ℕ) → get_or (divided g xs) i 0 ≡ get_or xs i 0 / g
get_or-divided xs g i = rw zero-div at (get_or-map (λ x. x / g) xs i 0)
