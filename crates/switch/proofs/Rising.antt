-- Rows whose places rise: what they have in common, and that two such parts make one such row.
use Prim.Native.Nat.{ℕ, ◌+◌, ◌*◌, ◌≤◌, ◌<◌}
use mathlib.Core.Path.{◌≡◌}
use native.Mathlib.Nat.{mul-le-mul_left}
use native.Mathlib.Omega.{arith}
use Rattle.switch.specs.Rows.{Row, joined}
use Rattle.switch.proofs.Rows.{by_part, low_place, high_place}

-- A row's places do not fall as its candidates are counted, and lie between two bounds.
pub record Rising (low high : ℕ) (row : Row) : Type 0 where
  pub bounds : low ≤ high
  pub places : (i j : ℕ) → i ≤ j → j < row.size
      → (low ≤ row.place i) × (row.place i ≤ row.place j) × (row.place j ≤ high)

-- Places that go up by equal steps, or stay.
pub rising_steps : {low high : ℕ} (row : Row) (from step : ℕ) → ((i : ℕ) → row.place i ≡ from + step * i)
    → low ≤ from → from + step * row.size ≤ high → Rising low high row
rising_steps row from step is l h =
    record {
      bounds = omega arith;
      places = λ i j before below.
          let here = is i in
          let there = is j in
          let up = mul-le-mul_left step before in
          let top = mul-le-mul_left step below in
          (omega arith, omega arith, omega arith);
    }

-- Two parts one after the other, in their places too.
pub rising_joined : {low high : ℕ} (a b : Row) (mid : ℕ) → Rising low mid a → Rising mid high b → Rising low high (joined a b)
rising_joined {low} {high} a b mid ra rb =
    record {
      bounds = omega (arith, ra.bounds, rb.bounds);
      places = λ i j before below. by_part a b (λ j. (i : ℕ) → i ≤ j → Between i j) in_first up_to_second j below i before;
    }
  where
    Between : ℕ → ℕ → Type 0
    Between i j = (low ≤ (joined a b).place i) × ((joined a b).place i ≤ (joined a b).place j) × ((joined a b).place j ≤ high)

    in_first : (j : ℕ) → j < a.size → (i : ℕ) → i ≤ j → Between i j
    in_first j h i l =
        let f = ra.places i j l h in
        rw (low_place a b i (omega arith), low_place a b j h) (f.0, f.1, omega (arith, f.2, rb.bounds))

    across : (i j : ℕ) → i < a.size → j < b.size → Between i (a.size + j)
    across i j g h =
        let f = ra.places i i (omega arith) g in
        let s = rb.places j j (omega arith) h in
        rw (low_place a b i g, high_place a b j) (f.0, omega (arith, f.2, s.0), s.2)

    in_second : (i j : ℕ) → i ≤ j → j < b.size → Between (a.size + i) (a.size + j)
    in_second i j l h =
        let s = rb.places i j l h in
        rw (high_place a b i, high_place a b j) (omega (arith, s.0, ra.bounds), s.1, s.2)

    up_to_second : (j : ℕ) → j < b.size → (i : ℕ) → i ≤ a.size + j → Between i (a.size + j)
    up_to_second j h i l =
        by_part a b (λ i. i ≤ a.size + j → Between i (a.size + j)) (λ i g m. across i j g h)
        (λ i g m. in_second i j (omega arith) h) i (omega arith) l
