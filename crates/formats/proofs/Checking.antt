-- What a plan file's verdict says: of well-formed files, of files that hold a given plan, and of damaged ones.
use Prim.Native.Nat.{ℕ, ◌+◌, ◌*◌, ◌/◌, ◌%◌, ◌≤◌, ◌<◌}
use mathlib.Core.Bool.{Bool, true, not, ◌&&◌}
use mathlib.Core.List.{List, [], ◌∷◌}
use mathlib.Core.Logic.{◌↔◌}
use mathlib.Core.Path.{◌≡◌, refl, sym, ◌∙◌, ap, ap₂, subst}
use native.Mathlib.Nat.{zero-add, add_assoc, le_dest}
use native.Mathlib.Omega.{arith}
use lib.ListN.{length, get_or}
use lib.Dec.{eqb, leb, ltb}
use borrow.Author.Tests.{eq-eqb, eqb-true, ltb-true, ltb-false, leb-true, not-false}
use Rattle.laws.proofs.Lists.{cells-list}
use Rattle.laws.proofs.Search.{both_true}
use Rattle.words.specs.Words.{Bytes, word_at, with_word}
use Rattle.words.specs.Check.{sealed, start_of, word_in}
use Rattle.words.proofs.Words.{length_with_word, word_with_other}
use Rattle.words.proofs.Sealed.{running_same, file_damage_seen}
use Rattle.switch.specs.Cells.{cell_of}
use Rattle.switch.specs.Given.{Silent, Gives}
use Rattle.switch.specs.Numbering.{number_of}
use Rattle.switch.specs.Rows.{Row, refusal, or_else, verdict_of}
use Rattle.switch.specs.declared.verdict.Cause.TheVariants.{Check}
use Rattle.switch.specs.declared.verdict.Verdict.{Verdict}
use Rattle.switch.specs.declared.verdict.Verdict.TheVariants.{Accepted, Refused}
use Rattle.switch.proofs.Cells.{cell_below}
use Rattle.switch.proofs.Rows.{silent_after, accepts_both, accepted_exactly, verdict_append, verdict_at_lem, verdict_past, Each, each_nil, each_cons, Named, gives_named}
use Rattle.switch.proofs.Search.{at_of_first, nothing_of_silent}
use Rattle.judging.specs.PlanRows.{fair_rows}
use Rattle.judging.specs.Shown.{FairPlan}
use Rattle.judging.proofs.Accepted.{fair_of_silent, rates_silent}
use Rattle.formats.specs.FileRows.{length_row, check_row}
use Rattle.judging.specs.Places.{low_word, high_word, reason_byte}
use Rattle.formats.specs.PlanFile.{HoldsPlan, wide, plan_in, format_rows, check_verdict, WellFormed}
use Rattle.formats.specs.RequestFile.{request_in}
use Rattle.formats.proofs.PlanSound.{by_halves, sound_of_well_formed}

-- Every row's number passes a test, and so does the number that is given.
passing : (ℕ → Bool) → List Row → Bool
passing test [] = true
passing test (row ∷ rows) = test (number_of row.cause) && passing test rows

given_passes : (test : ℕ → Bool) (rows : List Row) → passing test rows ≡ true → (k q : ℕ) → Gives (verdict_of rows) k q → test k ≡ true
unfolding passing
given_passes test rows e = gives_named rows (λ k q. test k ≡ true) (go rows e)
  where
    go : (rows : List Row) → passing test rows ≡ true → Each (Named (λ k q. test k ≡ true)) rows
    go [] e = each_nil _
    go (row ∷ rows) e =
        let both = both_true (test (number_of row.cause)) (passing test rows) e in
        each_cons _ (λ i h o. both.0) (go rows both.1)

module _ (file : List ℕ) where
  -- Of a well-formed file the rows after 10 are heard.
  later : WellFormed file → check_verdict file ≡ verdict_of (fair_rows (request_in file) (plan_in file))
  later e =
      verdict_append (format_rows file) (fair_rows (request_in file) (plan_in file))
      ∙ ap (λ (v : Verdict). or_else v (verdict_of (fair_rows (request_in file) (plan_in file)))) e

  pub well_formed_of_accepted : check_verdict file ≡ Accepted → WellFormed file
  well_formed_of_accepted e =
      (accepts_both (verdict_of (format_rows file)) _ (sym (verdict_append (format_rows file) (fair_rows (request_in file) (plan_in file))) ∙ e)).0

  pub accepts_exactly_fair : WellFormed file → (check_verdict file ≡ Accepted) ↔ FairPlan (request_in file) (plan_in file)
  accepts_exactly_fair e =
      let r = request_in file in
      let p = plan_in file in
      let s = sound_of_well_formed file e in (
        λ a. fair_of_silent r s.within p s.plan_within ((accepted_exactly (fair_rows r p)).0 (sym (later e) ∙ a)),
        λ fair. later e ∙ (accepted_exactly (fair_rows r p)).1 (silent_after (rates_silent r s.within p s.plan_within fair)),
      )

  up_to_ten : (k q : ℕ) → Gives (verdict_of (format_rows file)) k q → k ≤ 10
  unfolding passing
  up_to_ten k q g = leb-true k 10 (given_passes (λ n. leb n 10) (format_rows file) refl k q g)

  beyond_ten : (k q : ℕ) → Gives (verdict_of (fair_rows (request_in file) (plan_in file))) k q → 10 < k
  unfolding passing
  beyond_ten k q g = ltb-true 10 k (given_passes (ltb 10) (fair_rows (request_in file) (plan_in file)) refl k q g)

  pub well_formed_exactly : WellFormed file ↔ ((k q : ℕ) → Gives (check_verdict file) k q → 10 < k)
  well_formed_exactly = (
    λ e k q g. beyond_ten k q (subst (λ (v : Verdict). Gives v k q) (later e) g),
    λ none. go none (verdict_of (format_rows file)) refl,
  )
    where
      go : ((k q : ℕ) → Gives (check_verdict file) k q → 10 < k) → (v : Verdict) → verdict_of (format_rows file) ≡ v → v ≡ Accepted
      go none Accepted e = refl
      go none (Refused x) e =
          let whole : check_verdict file ≡ Refused x =
          verdict_append (format_rows file) (fair_rows (request_in file) (plan_in file))
          ∙ ap (λ (v : Verdict). or_else v (verdict_of (fair_rows (request_in file) (plan_in file)))) e in
          let low = up_to_ten (number_of x.cause) x.place (subst (λ (v : Verdict). Gives v (number_of x.cause) x.place) (sym e) (refl, refl)) in
          let high = none (number_of x.cause) x.place (subst (λ (v : Verdict). Gives v (number_of x.cause) x.place) (sym whole) (refl, refl)) in
          absurd (omega arith)

  -- Each word of a well-formed file is where document 01 puts it.
  pub words_of_well_formed : WellFormed file → HoldsPlan file (request_in file) (plan_in file)
  words_of_well_formed e =
      let s = sound_of_well_formed file e in
      record {
        request =
            record {
              kind = eqb-true (word_at file 0) 1 (not-false _ (s.kinds 0 (omega arith)));
              inputs = refl;
              outputs = refl;
              input_capacity_within = λ u h. sym (cells-list 8 _ u.0 h);
              output_capacity_within = λ v h. sym (cells-list 8 _ v.0 h);
              demand = λ u v hu hv. rw add_assoc (sym (cells-list 64 _ (cell_of u v) (cell_below u v hu hv)));
              spare = λ i h l.
                  let (k, at) = le_dest h in
                  rw (← at, ← zero-add (83 + k)) (omega (arith, ltb-false 0 (word_in file 0 (83 + k)) (s.spared.request k (omega arith))));
            };
        kind =
            by_halves (λ half. word_in file (1 + half) 0 ≡ 2 + half)
            (eqb-true (word_in file 1 0) 2 (not-false _ (s.kinds 1 (omega arith))))
            (eqb-true (word_in file 2 0) 3 (not-false _ (s.kinds 2 (omega arith))));
        base = by_halves (λ half. wide (word_in file (1 + half) 1) (word_in file (1 + half) 2) ≡ (plan_in file).base) refl s.same_base;
        rate = λ u v hu hv.
            let low : 128 * (1 + u.0 / 4) + (3 + 2 * (8 * (u.0 % 4) + v.0)) ≡ low_word (cell_of u v) = omega arith in
            let high : 128 * (1 + u.0 / 4) + (4 + 2 * (8 * (u.0 % 4) + v.0)) ≡ high_word (cell_of u v) = omega arith in
            ap₂ wide (ap (word_at file) low) (ap (word_at file) high) ∙ sym (cells-list 64 _ (cell_of u v) (cell_below u v hu hv));
        reason = λ u v hu hv.
            let at : 512 * (1 + u.0 / 4) + 4 * 67 + (8 * (u.0 % 4) + v.0) ≡ reason_byte (cell_of u v) = omega arith in
            ap (λ k. get_or file k 0) at ∙ sym (cells-list 64 _ (cell_of u v) (cell_below u v hu hv));
        spare = λ half i h l m.
            let (k, at) = le_dest l in
            rw (← at) (omega (arith, ltb-false 0 (word_in file (1 + half) (75 + k)) (s.spared.half half h k (omega arith))));
      }

-- A block is sealed as it was, if none of its words changed.
untouched : (file : List ℕ) (at w b : ℕ) → ((i : ℕ) → i < 128 → 128 * b + i ≡ at → ⊥)
    → sealed (start_of b) (word_in (with_word file at w) b) ≡ sealed (start_of b) (word_in file b)
untouched file at w b apart =
    let same : (i : ℕ) → i < 128 → word_in (with_word file at w) b i ≡ word_in file b i =
    λ i h. word_with_other file at w (128 * b + i) (apart i h) in
    ap₂ eqb (same 127 (omega arith)) (running_same (start_of b) _ _ 127 (λ i h. same i (omega arith)))

pub plan_damage_refused : (file : List ℕ) → Bytes file → length file ≡ 1536 → Silent (check_row 3 file)
    → (b k w : ℕ) → b < 3 → k < 128 → w < 4_294_967_296 → (w ≡ word_in file b k → ⊥)
    → check_verdict (with_word file (128 * b + k) w) ≡ refusal Check (128 * b + 127)
plan_damage_refused file bytes size passes b k w hb hk hw differs =
    let damaged = with_word file (128 * b + k) w in
    verdict_past (length_row 1536 damaged) _
    (nothing_of_silent (length_row 1536 damaged) (λ i h. ap not (eq-eqb (length damaged) 1536 (length_with_word file (128 * b + k) w ∙ size))))
    ∙ verdict_at_lem (check_row 3 damaged) _ b
    (at_of_first (check_row 3 damaged)
    (record {
      below = hb;
      here =
          ap not
          (file_damage_seen (start_of b) file b k w bytes hk (rw size (omega arith)) hw differs
          (not-false _ (passes b hb)));
      earlier = λ j l. ap not (untouched file (128 * b + k) w j (λ i h e. omega arith)) ∙ passes j (omega arith);
    }))
