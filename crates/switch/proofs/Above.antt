-- A part of a table, searched for its first number above a limit. Past its end a table counts as 0, which is above none.
use Rattle.std.proofs.Common.{ℕ, Bool, ◌≡◌, cond, ◌+◌, ◌-◌, ◌<◌, ◌≤◌, length, min, true, false, ltb, List, inl, inr, ltb-true, ltb-false, subst, arith}
use Rattle.std.specs.Prelude.{get_or, position, Option}
use Rattle.std.specs.Option.{option_map}
use Rattle.std.specs.List.{position_or_len, slice_range}
use Rattle.std.proofs.Math.ListN.{get_or-eq_default}
use Rattle.std.specs.declared.option.Option.TheVariants.{Some, None}
use Rattle.std.proofs.lemmas.Bool.{cases_lt}
use Rattle.std.proofs.lemmas.Grind.{common_steps}
use Rattle.std.proofs.lemmas.List.Quantifiers.{position-Some}
use Rattle.std.proofs.lemmas.List.Sums.{fails_before_first}
use Rattle.switch.specs.Tables.{FirstAbove, FoundAbove}

pub none_passes : {X : Type 0} (p : X → Bool) (xs : List X) (d : X) → position p xs ≡ None → (k : ℕ) → k < length xs → p (get_or xs k d) ≡ false
none_passes p xs d none k lt = elim (cases_lt (position_or_len p xs) (length xs)) [
  | inl inside ↦ grind (arith, common_steps)
  | inr past ↦ fails_before_first p xs k d (omega arith)
]

module _ (most first last : ℕ) {end : ℕ} (xs : List ℕ) {part : List ℕ} (e : end ≡ min last (length xs))
    (p : part ≡ slice_range xs first end) (long : length part + first ≡ end) where
  read : (k : ℕ) → first ≤ k → k < end → get_or part (k - first) 0 ≡ get_or xs k 0
  read k l h = grind (arith, common_steps)

  -- What is not above within the part is not above in the table, and past its end there is 0.
  passed : (k : ℕ) → first ≤ k → k < last → (k < end → ltb most (get_or part (k - first) 0) ≡ false) → get_or xs k 0 ≤ most
  passed k l h f = elim (cases_lt k end) [
    | inl inside ↦ subst (λ x. x ≤ most) (read k l inside) (ltb-false most (get_or part (k - first) 0) (f inside))
    | inr past ↦ omega (arith, get_or-eq_default xs 0 {n = k} (omega arith))
  ]

  pub above_found : {found : Option ℕ} → position (λ x. ltb most x) part ≡ found → FoundAbove most first last xs (option_map (λ i. first + i) found)
  above_found {found = None} none = λ k l h. passed k l h (λ inside. none_passes (λ x. ltb most x) part 0 none (k - first) (omega arith))
  above_found {found = Some i} some =
      let (inside, here, before) = position-Some (λ x. ltb most x) part i 0 some in (
        omega arith,
        omega arith,
        subst (λ x. most < x) (read (first + i) (omega arith) (omega arith))
            (ltb-true most (get_or part (first + i - first) 0) (subst (λ j. ltb most (get_or part j 0) ≡ true) (omega arith) here)),
        λ k l less. passed k l (omega arith) (λ _. before (k - first) (omega arith)),
      )

-- The same of the entry's number, with 64 for nothing.
abbrev pub place_of : Option ℕ → ℕ
place_of None = 64
place_of (Some c) = c

pub first_of_found : {most first last : ℕ} {xs : List ℕ} (found : Option ℕ) → FoundAbove most first last xs found
    → FirstAbove most first last xs (place_of found)
first_of_found None f = record { earlier = λ k l h _. f k l h; here = λ h. let z : 64 < 64 = h in absurd (omega arith) }
first_of_found (Some c) (low, high, above, before) =
    record { earlier = λ k l _ less. before k l less; here = λ _. (low, high, above) }

-- A stretch's used entries and its others both end no later than the stretch.
pub within_stretch : (used : Bool) {end last : ℕ} → end ≤ last → cond used end last ≤ last
within_stretch true h = h
within_stretch false h = omega arith
