-- What a search finds says of its row what the row says.
use Rattle.std.proofs.Common.{ℕ, ◌≡◌, ◌+◌, ◌-◌, ◌≤◌, ◌<◌, Bool, true, List, length, sym, ◌∙◌, ap, subst, arith}
use Rattle.std.specs.Prelude.{get_or, ltb, position, Option}
use Rattle.std.specs.List.{zip, slice_range}
use Rattle.std.specs.Option.{option_map}
use Rattle.std.specs.declared.option.Option.TheVariants.{Some, None}
use Rattle.std.proofs.lemmas.Grind.{common_steps}
use Rattle.std.proofs.lemmas.List.Quantifiers.{position-Some}
use Rattle.std.proofs.lemmas.Slice.Zip.{length-zip, get_or-zip}
use Rattle.switch.specs.Rows.{Row, refusal, row_verdict}
use Rattle.switch.proofs.Above.{none_passes}
use Rattle.switch.proofs.Search.{passed_none, passed_on, row_refuses, row_accepts}
use Rattle.checker.specs.Found.{FirstThat, refusal_of}

-- A row whose places are its candidates.
pub found_row : (row : Row) (found : Option ℕ) → ((c : ℕ) → row.place c ≡ c) → FirstThat 0 row.size row.offends found
    → refusal_of row.cause found ≡ row_verdict row
found_row row None places none =
    sym (row_accepts (passed_on row.size (passed_none row) (omega arith) none) (omega arith))
found_row row (Some c) places (low, high, here, before) =
    sym (row_refuses (passed_on c (passed_none row) (omega arith) before) high here ∙ ap (refusal row.cause) (places c))

-- `position` is such a search.
pub position_finds : {X : Type 0} (p : X → Bool) (xs : List X) (d : X) (found : Option ℕ) → found ≡ position p xs
    → FirstThat 0 (length xs) (λ k. p (get_or xs k d)) found
position_finds p xs d None e = λ k low high. none_passes p xs d (sym e) k high
position_finds p xs d (Some i) e =
    let (inside, here, before) = position-Some p xs i d (sym e) in
    (omega arith, inside, here, λ k low less. before k less)

pub position_finds_in : {X : Type 0} (n : ℕ) (p : X → Bool) (xs : List X) (d : X) (found : Option ℕ) → length xs ≡ n
    → found ≡ position p xs → FirstThat 0 n (λ k. p (get_or xs k d)) found
position_finds_in n p xs d found long e =
    subst (λ n. FirstThat 0 n (λ k. p (get_or xs k d)) found) long (position_finds p xs d found e)

-- And so is `position` over a part of a table.
pub part_finds : {X : Type 0} (p : X → Bool) (first last : ℕ) (xs : List X) {part : List X} (d : X) (found : Option ℕ)
    → part ≡ slice_range xs first last → length part + first ≡ last → last ≤ length xs → found ≡ position p part
    → FirstThat first last (λ k. p (get_or xs k d)) (option_map (λ i. first + i) found)
part_finds p first last xs {part} d found is long within e = go found (position_finds p part d found e)
  where
    read : (k : ℕ) → first ≤ k → k < last → get_or part (k - first) d ≡ get_or xs k d
    read k l h = grind (arith, common_steps)

    go : (found : Option ℕ) → FirstThat 0 (length part) (λ k. p (get_or part k d)) found
        → FirstThat first last (λ k. p (get_or xs k d)) (option_map (λ i. first + i) found)
    go None none = λ k l h. sym (ap p (read k l h)) ∙ none (k - first) (omega arith) (omega arith)
    go (Some i) (low, high, here, before) =
        let at : first + i - first ≡ i = omega arith in (
          omega arith,
          omega arith,
          sym (ap p (read (first + i) (omega arith) (omega arith))) ∙ subst (λ j. p (get_or part j d) ≡ true) (sym at) here,
          λ k l less. sym (ap p (read k l (omega arith))) ∙ before (k - first) (omega arith) (omega arith),
        )

-- And so is `position` over the pairs of two tables.
pub pairs_find : (n : ℕ) (xs most : List ℕ) (found : Option ℕ) → length xs ≡ n → length most ≡ n
    → found ≡ position (λ (pair : ℕ × ℕ). ltb pair.1 pair.0) (zip xs most)
    → FirstThat 0 n (λ k. ltb (get_or most k 0) (get_or xs k 0)) found
pairs_find n xs most found long same e = go found (position_finds (λ (pair : ℕ × ℕ). ltb pair.1 pair.0) (zip xs most) (0, 0) found e)
  where
    all : length (zip xs most) ≡ n
    all = omega (arith, length-zip xs most)

    read : (k : ℕ) → k < n
        → ltb (get_or (zip xs most) k (0, 0)).1 (get_or (zip xs most) k (0, 0)).0 ≡ ltb (get_or most k 0) (get_or xs k 0)
    read k h = rw (get_or-zip xs most k (0, 0) (omega arith) (omega arith))

    go : (found : Option ℕ)
        → FirstThat 0 (length (zip xs most)) (λ k. ltb (get_or (zip xs most) k (0, 0)).1 (get_or (zip xs most) k (0, 0)).0) found
        → FirstThat 0 n (λ k. ltb (get_or most k 0) (get_or xs k 0)) found
    go None none = λ k low high. sym (read k high) ∙ none k low (omega (arith, all))
    go (Some c) (low, high, here, before) =
        let inside : c < n = omega (arith, all) in
        (low, inside, sym (read c inside) ∙ here, λ k from less. sym (read k (omega arith)) ∙ before k from less)
