-- Word i stands in chunk i of a row of bytes that is cut into chunks of four, and bytes put over that chunk put a word.
use Rattle.std.proofs.Common.{◌≡◌, ℕ, zero, suc, ◌+◌, ◌-◌, ◌*◌, ◌/◌, ◌<◌, ◌≤◌, List, length, get_or, drop, le-ltb, lt-ltb, ap, ◌∙◌, arith, refl}
use mathlib.Core.List.{append_assoc}
use native.Mathlib.Nat.{add-zero}
use borrow.Rule.Slice.PartMut.{put_mid}
use Rattle.std.proofs.lemmas.List.{get_or-take, get_or-drop}
use Rattle.std.proofs.lemmas.List.Edits.{sets-eq}
use Rattle.std.proofs.Math.Seq.{drop-drop}
use Rattle.std.specs.Int.{from_le_bytes, to_le_bytes, w32}
use Rattle.std.specs.Simd.{first_chunks}
use Rattle.words.specs.Words.{bytes_of, word_at, with_word}

-- Chunk i begins at byte 4 i.
chunk_byte : (file : List ℕ) (count i j : ℕ) (d : List ℕ) → i < count → j < 4
    → get_or (get_or (first_chunks 4 count file) i d) j 0 ≡ get_or file (4 * i + j) 0
chunk_byte file zero i j d h k = absurd (omega arith)
chunk_byte file (suc count) zero j d h k =
    let e : 4 * zero + j ≡ j = omega arith in
    rw e (get_or-take 4 file j 0 k)
chunk_byte file (suc count) (suc i) j d h k =
    let e : 4 * suc i + j ≡ 4 + (4 * i + j) = omega arith in
    rw e (chunk_byte (drop 4 file) count i j d (omega arith) k ∙ get_or-drop 4 file (4 * i + j) 0)

pub word_of_chunk : (file bytes : List ℕ) (i : ℕ) → i < length file / 4
    → bytes ≡ get_or (first_chunks 4 (length file / 4) file) i bytes → from_le_bytes w32 bytes ≡ word_at file i
unfolding word_at
word_of_chunk file bytes i h is =
    let byte = λ (j : ℕ) (k : j < 4). ap (λ (b : List ℕ). get_or b j 0) is ∙ chunk_byte file (length file / 4) i j bytes h k in
    simp (lt-ltb _ _ h, byte 0 (omega arith), byte 1 (omega arith), byte 2 (omega arith), byte 3 (omega arith), add-zero)
    (omega arith)

pub no_word : (file : List ℕ) (i : ℕ) → length file / 4 ≤ i → word_at file i ≡ 0
unfolding word_at
no_word file i h = simp (le-ltb _ _ h)

pub word_put : (file bytes : List ℕ) (i w : ℕ) → i < length file / 4 → bytes ≡ to_le_bytes w32 w
    → put_mid (4 * i) (4 * i + 4 - 4 * i) file bytes ≡ with_word file i w
unfolding with_word
word_put file bytes i w h is =
    let e : 4 * i + 4 - 4 * i ≡ 4 = omega arith in
    simp (lt-ltb _ _ h, e, is, drop-drop, sets-eq (bytes_of w) file (4 * i) (omega arith), append_assoc) refl

pub nothing_put : (file : List ℕ) (i w : ℕ) → length file / 4 ≤ i → file ≡ with_word file i w
unfolding with_word
nothing_put file i w h = simp (le-ltb _ _ h)
