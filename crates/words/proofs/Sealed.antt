-- A block that was sealed passes, and a change of any one word is seen.
use Prim.Native.Nat.{ℕ, zero, suc, ◌+◌, ◌*◌, ◌/◌, ◌%◌, ◌≤◌, ◌<◌}
use mathlib.Core.Path.{◌≡◌, refl, sym, ap, ◌∙◌}
use mathlib.Core.Bool.{true, false}
use mathlib.Core.Logic.{◌⊎◌, inl, inr}
use mathlib.Core.List.{List, ◌++◌, append_assoc}
use native.Mathlib.Nat.{zero-add}
use native.Mathlib.Omega.{arith}
use lib.ListN.{length, take, drop, length-append, length-drop, take-append-drop}
use lib.Seq.{length-take-le, drop-drop}
use borrow.Author.Tests.{eq-eqb, ne_eqb, eqb-true}
use Rattle.laws.proofs.Search.{eq_or_not}
use Rattle.words.specs.Words.{Bytes, bytes_of, word_at, with_word, laid}
use Rattle.words.specs.Check.{rotated, taken, running, check, sealed, start_of, word_in, OneWord, sealed_in, block_of}
use Rattle.words.proofs.Words.{bytes_of_lem, bytes_append, bytes_laid, word_below, bytes_with_word, word_with_same, word_with_other, word_after}
use Rattle.words.proofs.Words.{with_word_after, length-laid, word_laid, laid_more, word_behind, with_word_behind}

-- The checks of the first three blocks of a file of zeros.
pub empty_block_checks : (check (start_of 0) (λ i. 0) ≡ 2_147_483_648)
    × (check (start_of 1) (λ i. 0) ≡ 1)
    × (check (start_of 2) (λ i. 0) ≡ 2_147_483_649)
unfolding running
empty_block_checks = (refl, refl, refl)

pub running_same : (start : ℕ) (v w : ℕ → ℕ) (k : ℕ) → ((i : ℕ) → i < k → v i ≡ w i)
    → running start v k ≡ running start w k
unfolding running
running_same start v w zero e = refl
running_same start v w (suc k) e = rw (running_same start v w k (λ i h. e i (omega arith)), e k (omega arith))

running-below : (start : ℕ) (w : ℕ → ℕ) (k : ℕ) → 0 < k → running start w k < 4_294_967_296
unfolding running
running-below start w zero h = absurd (omega arith)
running-below start w (suc k) h = omega arith

pub check-below : (start : ℕ) (w : ℕ → ℕ) → check start w < 4_294_967_296
check-below start w = running-below start w 127 (omega arith)

-- What was taken can be told from the sum: the word if the sum before is known, and the sum before if the word is.
word_of-taken : (sum x y : ℕ) → x < 4_294_967_296 → y < 4_294_967_296 → taken sum x ≡ taken sum y → x ≡ y
word_of-taken sum x y p q e = omega arith

same_before : (a b x : ℕ) → a < 4_294_967_296 → b < 4_294_967_296
    → (a + x) % 4_294_967_296 ≡ (b + x) % 4_294_967_296 → a ≡ b
same_before a b x p q e = omega arith

sum_of_taken : (a b x : ℕ) → a < 4_294_967_296 → b < 4_294_967_296 → taken a x ≡ taken b x → a ≡ b
sum_of_taken a b x p q e =
    let r : rotated a ≡ rotated b = same_before (rotated a) (rotated b) x (omega arith) (omega arith) e in
    omega arith

module _ (start : ℕ) (v w : ℕ → ℕ) (k : ℕ) (below : k < 128) (v_below : (i : ℕ) → v i < 4_294_967_296)
    (w_below : (i : ℕ) → w i < 4_294_967_296) (one : OneWord v w k) where
  -- Sums up to the changed word agree; sums that it is in differ, however many equal words follow.
  together : (n : ℕ) → n ≤ k → running start v n ≡ running start w n
  together n h = running_same start v w n (λ i l. one.same i (λ e. omega arith))

  apart : (n : ℕ) → k < n → running start v n ≡ running start w n → ⊥
  unfolding running
  apart zero h e = absurd (omega arith)
  apart (suc n) h e = go (eq_or_not n k) (apart n)
    where
      go : (n ≡ k) ⊎ (n ≡ k → ⊥) → (k < n → running start v n ≡ running start w n → ⊥) → ⊥
      go (inl here) before =
          let t : running start v n ≡ running start w n = together n (omega arith) in
          one.differs
          (rw here at (word_of-taken (running start v n) (v n) (w n) (v_below n) (w_below n) (rw (← t) at e)))
      go (inr later) before =
          let t : v n ≡ w n = one.same n later in
          before (omega arith)
          (sum_of_taken (running start v n) (running start w n) (v n) (running-below start v n (omega arith))
          (running-below start w n (omega arith)) (rw (← t) at e))

  pub damage_seen : sealed start v ≡ true → sealed start w ≡ false
  damage_seen passes =
      ne_eqb (w 127) (check start w) (λ e. go e (eqb-true (v 127) (check start v) passes) (eq_or_not 127 k))
    where
      go : w 127 ≡ check start w → v 127 ≡ check start v → (127 ≡ k) ⊎ (127 ≡ k → ⊥) → ⊥
      go e f (inl last) = one.differs (rw last at (f ∙ together 127 (omega arith) ∙ sym e))
      go e f (inr later) = apart 127 (omega arith) (sym f ∙ one.same 127 later ∙ e)

pub seal_passes : (start : ℕ) (file : List ℕ) (block : ℕ) → 128 * block + 127 < length file / 4
    → sealed start (word_in (sealed_in start file block) block) ≡ true
seal_passes start file block h =
    let last : ℕ = 128 * block + 127 in
    let c : ℕ = check start (word_in file block) in
    eq-eqb _ _
    (word_with_same file last c h (check-below start (word_in file block))
    ∙ sym (running_same start _ (word_in file block) 127
    (λ i l. word_with_other file last c (128 * block + i) (λ e. omega arith))))

pub file_damage_seen : (start : ℕ) (file : List ℕ) (block k w : ℕ) → Bytes file → k < 128
    → 128 * block + k < length file / 4 → w < 4_294_967_296 → (w ≡ word_in file block k → ⊥)
    → sealed start (word_in file block) ≡ true
    → sealed start (word_in (with_word file (128 * block + k) w) block) ≡ false
file_damage_seen start file block k w bytes below there fits ne =
    let at : ℕ = 128 * block + k in
    let damaged : List ℕ = with_word file at w in
    damage_seen start (word_in file block) (word_in damaged block) k below
    (λ i. word_below file bytes (128 * block + i))
    (λ i. word_below damaged (bytes_with_word file bytes at w) (128 * block + i))
    (record {
      differs = λ e. ne (sym (e ∙ word_with_same file at w there fits));
      same = λ i away. sym (word_with_other file at w (128 * block + i) (λ e. away (omega arith)));
    })

-- A block that is laid out has its words, and is sealed, whatever follows it.
module _ (start : ℕ) (w : ℕ → ℕ) where
  pub length_block : length (block_of start w) ≡ 512
  length_block = simp (length-append, length-laid)

  pub block_bytes : Bytes (block_of start w)
  block_bytes = bytes_append (laid w 127) (bytes_of (check start w)) (bytes_laid w 127) (bytes_of_lem (check start w))

  pub block_words : (rest : List ℕ) (i : ℕ) → i < 127 → w i < 4_294_967_296 → word_at (block_of start w ++ rest) i ≡ w i
  block_words rest i h small = rw append_assoc (word_laid w 127 (bytes_of (check start w) ++ rest) i h small)

  pub block_check : (rest : List ℕ) → word_at (block_of start w ++ rest) 127 ≡ check start w
  block_check rest =
      rw append_assoc (word_after (laid w 127) 127 (check start w) rest (length-laid w 127) (check-below start w))

  pub block_sealed : (rest : List ℕ) → ((i : ℕ) → i < 127 → w i < 4_294_967_296)
      → sealed start (word_in (block_of start w ++ rest) 0) ≡ true
  block_sealed rest small =
      eq-eqb _ _
      (block_check rest ∙ sym (running_same start _ w 127 (λ i h. rw zero-add (block_words rest i h (small i h)))))

  -- It is what sealing makes of its content laid out at the front of a file.
  pub seal_laid : (file : List ℕ) → 512 ≤ length file → ((i : ℕ) → i < 127 → w i < 4_294_967_296)
      → sealed_in start (laid w 127 ++ drop 508 file) 0 ≡ block_of start w ++ drop 512 file
  seal_laid file room small =
      let rest : List ℕ = drop 508 file in
      let same : check start (word_in (laid w 127 ++ rest) 0) ≡ check start w =
      running_same start _ w 127 (λ i h. rw zero-add (word_laid w 127 rest i h (small i h))) in
      rw same
      (with_word_after (laid w 127) 127 rest (check start w) (length-laid w 127) (simp length-drop (omega arith))
      ∙ rw (← drop-drop 4 508 file, append_assoc))

-- The same of a block behind so many others.
module _ (start : ℕ) (w : ℕ → ℕ) (small : (i : ℕ) → i < 127 → w i < 4_294_967_296) (front rest : List ℕ) (block : ℕ)
    (e : length front ≡ 512 * block) where
  pub block_words_behind : (i : ℕ) → i < 127 → word_in (front ++ (block_of start w ++ rest)) block i ≡ w i
  block_words_behind i h =
      word_behind front (128 * block) (omega arith) (block_of start w ++ rest) i ∙ block_words start w rest i h (small i h)

  pub block_sealed_behind : sealed start (word_in (front ++ (block_of start w ++ rest)) block) ≡ true
  block_sealed_behind =
      eq-eqb _ _
      (word_behind front (128 * block) (omega arith) (block_of start w ++ rest) 127 ∙ block_check start w rest
      ∙ sym (running_same start _ w 127 block_words_behind))

-- Behind so many blocks a block is sealed as it is at the front.
seal_behind : (start : ℕ) (front rest : List ℕ) (block : ℕ) → length front ≡ 512 * block
    → sealed_in start (front ++ rest) block ≡ front ++ sealed_in start rest 0
seal_behind start front rest block e =
    let k : ℕ = 128 * block in
    let size : length front ≡ 4 * k = omega arith in
    with_word_behind front k size rest 127 _
    ∙ ap (λ (sum : ℕ). front ++ with_word rest 127 sum)
    (running_same start _ _ 127 (λ i h. rw zero-add (word_behind front k size rest i)))

-- A buffer in whose block the first k words are laid.
abbrev pub laid_in : List ℕ → ℕ → (ℕ → ℕ) → ℕ → List ℕ
laid_in buffer block w k = take (512 * block) buffer ++ (laid w k ++ drop (4 * k) (drop (512 * block) buffer))

pub none_laid_in : (buffer : List ℕ) (block : ℕ) (w : ℕ → ℕ) → buffer ≡ laid_in buffer block w 0
unfolding laid
none_laid_in buffer block w = sym (take-append-drop (512 * block) buffer)

module _ (buffer : List ℕ) (block : ℕ) (room : 512 * block + 512 ≤ length buffer) (w : ℕ → ℕ) where
  size : length (take (512 * block) buffer) ≡ 512 * block
  size = length-take-le (512 * block) buffer (omega arith)

  left : 512 ≤ length (drop (512 * block) buffer)
  left = rw length-drop (omega arith)

  pub laid_in_more : (k : ℕ) → k < 127 → with_word (laid_in buffer block w k) (128 * block + k) (w k) ≡ laid_in buffer block w (k + 1)
  laid_in_more k h =
      with_word_behind (take (512 * block) buffer) (128 * block) (omega (arith, size)) _ k (w k)
      ∙ ap (λ (f : List ℕ). take (512 * block) buffer ++ f) (laid_more w k (drop (512 * block) buffer) (omega (arith, left)))

  pub seal_laid_in : (start next : ℕ) → next ≡ 512 * block + 512 → ((i : ℕ) → i < 127 → w i < 4_294_967_296)
      → sealed_in start (laid_in buffer block w 127) block ≡ take (512 * block) buffer ++ (block_of start w ++ drop next buffer)
  seal_laid_in start next e small =
      seal_behind start (take (512 * block) buffer) _ block size
      ∙ ap (λ (f : List ℕ). take (512 * block) buffer ++ f) (seal_laid start w (drop (512 * block) buffer) left small)
      ∙ rw (drop-drop 512 (512 * block) buffer, e)
