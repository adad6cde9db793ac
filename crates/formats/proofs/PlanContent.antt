-- The words of a plan's two blocks, and what is read of a plan file.
use Prim.Native.Nat.{ℕ, zero, suc, ◌+◌, ◌*◌, ◌/◌, ◌%◌, ◌≤◌, ◌<◌}
use mathlib.Core.Path.{◌≡◌, sym, ap, ap₂, subst, ◌∙◌}
use mathlib.Core.Bool.{Bool, true, false, cond}
use mathlib.Core.List.{List, [], ◌++◌, append-nil, append_assoc}
use native.Mathlib.Nat.{add-sub_cancel_left}
use native.Mathlib.Omega.{arith}
use lib.Dec.{eqb}
use lib.ListN.{length, get_or, length-append}
use borrow.Author.Tests.{lt-ltb, le-ltb}
use Rattle.laws.proofs.Lists.{list_is}
use Rattle.words.specs.Words.{Bytes, word_at}
use Rattle.words.specs.Check.{sealed, start_of, word_in}
use Rattle.words.proofs.Words.{bytes_append, byte_of_word}
use Rattle.words.proofs.Sealed.{length_block, block_bytes, block_sealed, block_words_behind, block_sealed_behind}
use Rattle.switch.specs.Within.{Shaped}
use Rattle.switch.specs.declared.plan.Plan.{Plan}
use Rattle.switch.specs.declared.request.Request.{Request}
use Rattle.judging.specs.Places.{low_word, high_word, reason_byte, low_of, high_of}
use Rattle.judging.specs.PlanRows.{numerator_of, cell_in}
use Rattle.judging.specs.PlanWithin.{said_reason, PlanShaped}
use Rattle.formats.specs.PlanShown.{PlanFits}
use Rattle.formats.specs.PlanFile.{wide, four_reasons, rate_word, plan_word, plan_block, plan_file, plan_in}
use Rattle.formats.specs.RequestFile.{request_word, request_file, request_in}
use Rattle.formats.proofs.Content.{from}
use Rattle.formats.proofs.RequestFile.{length_file, request_in_file}

-- What holds of each part of a half's block holds of every word.
pub by_plan_word : (Q : ℕ → Type 0) → Q 0 → Q 1 → Q 2 → ((k : ℕ) → k < 64 → Q (3 + k)) → ((k : ℕ) → k < 8 → Q (67 + k))
    → ((i : ℕ) → 75 ≤ i → Q i) → (i : ℕ) → Q i
by_plan_word Q kind low high rates reasons spare zero = kind
by_plan_word Q kind low high rates reasons spare (suc zero) = low
by_plan_word Q kind low high rates reasons spare (suc (suc zero)) = high
by_plan_word Q kind low high rates reasons spare (suc (suc (suc i))) =
    from Q 3 64 rates (from Q 67 8 reasons spare) (suc (suc (suc i))) (omega arith)

-- Each word is found by passing the tests before it.
module _ (p : Plan) (half : ℕ) where
  pub word_rate : (k : ℕ) → k < 64 → plan_word p half (3 + k) ≡ rate_word p (cell_in half (k / 2)) (k % 2)
  unfolding plan_word
  word_rate k h =
      let i = 3 + k in
      rw (
        le-ltb i 1 (omega arith),
        le-ltb i 2 (omega arith),
        le-ltb i 3 (omega arith),
        lt-ltb i 67 (omega arith),
        add-sub_cancel_left 3 k,
      )

  pub word_reasons : (k : ℕ) → k < 8 → plan_word p half (67 + k) ≡ four_reasons p (cell_in half (4 * k))
  unfolding plan_word
  word_reasons k h =
      let i = 67 + k in
      rw (
        le-ltb i 1 (omega arith),
        le-ltb i 2 (omega arith),
        le-ltb i 3 (omega arith),
        le-ltb i 67 (omega arith),
        lt-ltb i 75 (omega arith),
        add-sub_cancel_left 67 k,
      )

  pub word_spare : (i : ℕ) → 75 ≤ i → plan_word p half i ≡ 0
  unfolding plan_word
  word_spare i h =
      rw (
        le-ltb i 1 (omega arith),
        le-ltb i 2 (omega arith),
        le-ltb i 3 (omega arith),
        le-ltb i 67 (omega arith),
        le-ltb i 75 (omega arith),
      )

  -- The two words of a cell's numerator.
  pub word_low : (k : ℕ) → k < 32 → plan_word p half (3 + 2 * k) ≡ low_of (numerator_of p (cell_in half k))
  word_low k h =
      let cell : 2 * k / 2 ≡ k = omega arith in
      let low : 2 * k % 2 ≡ 0 = omega arith in
      word_rate (2 * k) (omega arith) ∙ rw (cell, low)

  pub word_high : (k : ℕ) → k < 32 → plan_word p half (4 + 2 * k) ≡ high_of (numerator_of p (cell_in half k))
  word_high k h =
      let place : 4 + 2 * k ≡ 3 + (2 * k + 1) = omega arith in
      let cell : (2 * k + 1) / 2 ≡ k = omega arith in
      let high : (2 * k + 1) % 2 ≡ 1 = omega arith in
      ap (plan_word p half) place ∙ word_rate (2 * k + 1) (omega arith) ∙ rw (cell, high)

either_below : (low : Bool) (x : ℕ) → x < 18_446_744_073_709_551_616 → cond low (low_of x) (high_of x) < 4_294_967_296
either_below true x h = omega arith
either_below false x h = omega arith

pub plan_word-below : (p : Plan) → PlanFits p → (half : ℕ) → half < 2 → (i : ℕ) → plan_word p half i < 4_294_967_296
unfolding plan_word
plan_word-below p fits half h =
    by_plan_word (λ i. plan_word p half i < 4_294_967_296) (omega arith) (omega arith) (omega (arith, fits.base))
    (λ k l. rw (word_rate p half k l) (either_below (eqb (k % 2) 0) _ (fits.numerator (cell_in half (k / 2)) (omega arith))))
    (λ k l. let c = cell_in half (4 * k) in
    rw (word_reasons p half k l)
    (omega (arith, fits.reason c (omega arith), fits.reason (c + 1) (omega arith), fits.reason (c + 2) (omega arith), fits.reason (c + 3) (omega arith))))
    (λ i l. rw (word_spare p half i l) (omega arith))

pub wide_of_words : (x : ℕ) → wide (low_of x) (high_of x) ≡ x
wide_of_words x = omega arith

-- A plan file is three blocks, each behind those before it.
module _ (r : Request) (p : Plan) where
  pub length_plan_file : length (plan_file r p) ≡ 1536
  length_plan_file =
      length-append (request_file r) (plan_block p 0 ++ plan_block p 1)
      ∙ ap₂ ◌+◌ (length_file r)
      (length-append (plan_block p 0) (plan_block p 1)
      ∙ ap₂ ◌+◌ (length_block (start_of 1) (plan_word p 0)) (length_block (start_of 2) (plan_word p 1)))

  length_first_two : length (request_file r ++ plan_block p 0) ≡ 1024
  length_first_two =
      length-append (request_file r) (plan_block p 0) ∙ ap₂ ◌+◌ (length_file r) (length_block (start_of 1) (plan_word p 0))

  pub bytes_plan_file : Bytes (plan_file r p)
  bytes_plan_file =
      bytes_append (request_file r) _ (block_bytes (start_of 0) (request_word r))
      (bytes_append (plan_block p 0) (plan_block p 1) (block_bytes (start_of 1) (plan_word p 0)) (block_bytes (start_of 2) (plan_word p 1)))

  pub request_in_plan_file : ((i : ℕ) → request_word r i < 4_294_967_296) → Shaped r → request_in (plan_file r p) ≡ r
  request_in_plan_file small t = request_in_file r small t (plan_block p 0 ++ plan_block p 1)

  -- The last block, behind the first two.
  last_behind : (rest : List ℕ) → (request_file r ++ plan_block p 0) ++ (plan_block p 1 ++ rest) ≡ plan_file r p ++ rest
  last_behind rest = simp append_assoc

  module _ (fits : PlanFits p) where
    pub word_in_plan_file : (rest : List ℕ) (half : ℕ) → half < 2 → (i : ℕ) → i < 127
        → word_in (plan_file r p ++ rest) (1 + half) i ≡ plan_word p half i
    word_in_plan_file rest zero h i l =
        ap (λ (f : List ℕ). word_in f 1 i) (rw (append_assoc (request_file r), append_assoc (plan_block p 0)))
        ∙ block_words_behind (start_of 1) (plan_word p 0) (λ k m. plan_word-below p fits 0 (omega arith) k) (request_file r)
        (plan_block p 1 ++ rest) 1 (length_file r) i l
    word_in_plan_file rest (suc zero) h i l =
        ap (λ (f : List ℕ). word_in f 2 i) (sym (last_behind rest))
        ∙ block_words_behind (start_of 2) (plan_word p 1) (λ k m. plan_word-below p fits 1 (omega arith) k)
        (request_file r ++ plan_block p 0) rest 2 length_first_two i l
    word_in_plan_file rest (suc (suc half)) h i l = absurd (omega arith)

    pub word_of_plan_file : (half : ℕ) → half < 2 → (i : ℕ) → i < 127 → word_in (plan_file r p) (1 + half) i ≡ plan_word p half i
    word_of_plan_file half h i l =
        subst (λ (f : List ℕ). word_in f (1 + half) i ≡ plan_word p half i) (append-nil (plan_file r p)) (word_in_plan_file [] half h i l)

    pub plan_file_sealed : ((i : ℕ) → request_word r i < 4_294_967_296) → (b : ℕ) → b < 3
        → sealed (start_of b) (word_in (plan_file r p) b) ≡ true
    plan_file_sealed small zero h = block_sealed (start_of 0) (request_word r) (plan_block p 0 ++ plan_block p 1) (λ i l. small i)
    plan_file_sealed small (suc zero) h =
        block_sealed_behind (start_of 1) (plan_word p 0) (λ k m. plan_word-below p fits 0 (omega arith) k) (request_file r)
        (plan_block p 1) 1 (length_file r)
    plan_file_sealed small (suc (suc zero)) h =
        subst (λ (f : List ℕ). sealed (start_of 2) (word_in f 2) ≡ true) (last_behind [] ∙ append-nil (plan_file r p))
        (block_sealed_behind (start_of 2) (plan_word p 1) (λ k m. plan_word-below p fits 1 (omega arith) k)
        (request_file r ++ plan_block p 0) [] 2 length_first_two)
    plan_file_sealed small (suc (suc (suc b))) h = absurd (omega arith)

    -- Each cell's numerator and reason are where they are looked for.
    pub low_in_file : (c : ℕ) → c < 64 → word_at (plan_file r p) (low_word c) ≡ low_of (numerator_of p c)
    low_in_file c h =
        let cell : cell_in (c / 32) (c % 32) ≡ c = omega arith in
        word_of_plan_file (c / 32) (omega arith) (3 + 2 * (c % 32)) (omega arith)
        ∙ word_low p (c / 32) (c % 32) (omega arith)
        ∙ rw cell

    pub high_in_file : (c : ℕ) → c < 64 → word_at (plan_file r p) (high_word c) ≡ high_of (numerator_of p c)
    high_in_file c h =
        let cell : cell_in (c / 32) (c % 32) ≡ c = omega arith in
        let place : high_word c ≡ 128 * (1 + c / 32) + (4 + 2 * (c % 32)) = omega arith in
        ap (word_at (plan_file r p)) place
        ∙ word_of_plan_file (c / 32) (omega arith) (4 + 2 * (c % 32)) (omega arith)
        ∙ word_high p (c / 32) (c % 32) (omega arith)
        ∙ rw cell

    pub reason_in_file : (c : ℕ) → c < 64 → get_or (plan_file r p) (reason_byte c) 0 ≡ said_reason p c
    reason_in_file c h =
        let i : ℕ = 128 * (1 + c / 32) + (67 + c % 32 / 4) in
        let first : ℕ = cell_in (c / 32) (4 * (c % 32 / 4)) in
        let cell : first + c % 4 ≡ c = omega arith in
        let place : reason_byte c ≡ 4 * i + c % 4 = omega arith in
        ap (λ (k : ℕ). get_or (plan_file r p) k 0) place
        ∙ byte_of_word (plan_file r p) bytes_plan_file i (rw length_plan_file (omega arith)) (said_reason p) first
        (λ j l. fits.reason (first + j) (omega arith))
        (word_of_plan_file (c / 32) (omega arith) (67 + c % 32 / 4) (omega arith)
        ∙ word_reasons p (c / 32) (c % 32 / 4) (omega arith))
        (c % 4) (omega arith)
        ∙ ap (said_reason p) cell

    base_in_file : (plan_in (plan_file r p)).base ≡ p.base
    unfolding plan_word
    base_in_file =
        ap₂ wide (word_of_plan_file 0 (omega arith) 1 (omega arith)) (word_of_plan_file 0 (omega arith) 2 (omega arith))
        ∙ wide_of_words p.base

    pub plan_in_plan_file : PlanShaped p → plan_in (plan_file r p) ≡ p
    plan_in_plan_file t i =
        record {
          base = base_in_file i;
          numerators =
              list_is 64 _ p.numerators t.numerators
              (λ c h. ap₂ wide (low_in_file c h) (high_in_file c h) ∙ wide_of_words (numerator_of p c)) i;
          reasons = list_is 64 _ p.reasons t.reasons reason_in_file i;
        }
