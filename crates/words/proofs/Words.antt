-- Words read from bytes, put among bytes, and laid out: what one says of the other.
use Prim.Native.Nat.{ℕ, zero, suc, ◌+◌, ◌*◌, ◌/◌, ◌%◌, ◌≤◌, ◌<◌}
use mathlib.Core.Path.{◌≡◌, refl, sym, ap, ◌∙◌}
use mathlib.Core.Bool.{Bool, true, false, cond}
use mathlib.Core.Logic.{◌≢◌, ◌⊎◌, inl, inr}
use mathlib.Core.List.{List, [], ◌∷◌, ◌++◌, append_assoc}
use native.Mathlib.Nat.{add-zero, add-mul-mod_self_left, div-div-eq-div-mul, mod-eq_of_lt}
use native.Mathlib.Numerals.{add-one, towards_suc}
use native.Mathlib.Omega.{arith}
use lib.ListN.{length, get_or, set, take, drop, length-append, length-drop, take-append-drop}
use lib.Seq.{length-take-le, take-suc, take-append_seam, drop-append-add, get_or-append_seam, get_or-append-add}
use lib.Seq.{get_or-set_other, sets, length-sets, sets-eq, drop-drop}
use borrow.Author.Tests.{lt-ltb, le-ltb}
use Rattle.laws.proofs.Search.{le_or_lt}
use Rattle.words.specs.Words.{Bytes, word_of, bytes_of, whole, word_at, with_word, laid}

-- 0x12345678 lies as 0x78, 0x56, 0x34, 0x12.
pub low_byte_first : (word_at (120 ∷ 86 ∷ 52 ∷ 18 ∷ []) 0 ≡ 305_419_896)
    × (bytes_of 305_419_896 ≡ 120 ∷ 86 ∷ 52 ∷ 18 ∷ [])
unfolding word_at
low_byte_first = (refl, refl)

-- Four bytes make one word of 32 bits, and a word of 32 bits four bytes.
word_of_bytes : (w : ℕ) → w < 4_294_967_296
    → word_of (w % 256) (w / 256 % 256) (w / 65_536 % 256) (w / 16_777_216 % 256) ≡ w
word_of_bytes w h =
    let top : w / 16_777_216 < 256 = omega arith in
    omega (arith, div-div-eq-div-mul w 256 256, div-div-eq-div-mul w 65_536 256, mod-eq_of_lt top)

bytes_of_word : (a b c d : ℕ) → a < 256 → b < 256 → c < 256 → d < 256 → bytes_of (word_of a b c d) ≡ a ∷ b ∷ c ∷ d ∷ []
bytes_of_word a b c d p q r s =
    let e : word_of a b c d % 256 ≡ a = omega arith in
    let f : word_of a b c d / 256 ≡ b + 256 * (c + 256 * d) = omega arith in
    let g : word_of a b c d / 65_536 ≡ c + 256 * d = omega arith in
    let h : word_of a b c d / 16_777_216 ≡ d = omega arith in
    rw (e, f, g, h) (simp (add-mul-mod_self_left, mod-eq_of_lt))

pub bytes_of_lem : (w : ℕ) → Bytes (bytes_of w)
bytes_of_lem w zero = omega arith
bytes_of_lem w (suc zero) = omega arith
bytes_of_lem w (suc (suc zero)) = omega arith
bytes_of_lem w (suc (suc (suc zero))) = omega arith
bytes_of_lem w (suc (suc (suc (suc i)))) = omega arith

-- A word is read, and put in, only where it is whole; what holds in both cases holds.
either : {A : Type 0} (P : A → Type 0) (b : Bool) {x y : A} → P x → P y → P (cond b x y)
either P true p q = p
either P false p q = q

-- Past the last word there is 0 to read, and nothing to replace.
pub word_past : (file : List ℕ) (i : ℕ) → length file / 4 ≤ i → word_at file i ≡ 0
unfolding word_at
word_past file i h = simp (le-ltb i (length file / 4) h)

pub with_word_past : (file : List ℕ) (i w : ℕ) → length file / 4 ≤ i → with_word file i w ≡ file
unfolding with_word
with_word_past file i w h = simp (le-ltb i (length file / 4) h)

pub word_below : (file : List ℕ) → Bytes file → (i : ℕ) → word_at file i < 4_294_967_296
unfolding word_at
word_below file b i =
    either (λ w. w < 4_294_967_296) (whole file i)
    (omega (arith, b (4 * i), b (4 * i + 1), b (4 * i + 2), b (4 * i + 3))) (omega arith)

pub word_there : (file : List ℕ) (i : ℕ) → i < length file / 4
    → word_at file i ≡ word_of (get_or file (4 * i) 0) (get_or file (4 * i + 1) 0) (get_or file (4 * i + 2) 0) (get_or file (4 * i + 3) 0)
unfolding word_at
word_there file i h = simp (lt-ltb i (length file / 4) h)

-- Of a word that is made of four bytes these are the bytes.
pub byte_of_word : (file : List ℕ) → Bytes file → (i : ℕ) → i < length file / 4 → (f : ℕ → ℕ) (c : ℕ)
    → ((j : ℕ) → j < 4 → f (c + j) < 256)
    → word_at file i ≡ word_of (f c) (f (c + 1)) (f (c + 2)) (f (c + 3))
    → (j : ℕ)
    → j < 4
    → get_or file (4 * i + j) 0 ≡ f (c + j)
byte_of_word file b i h f c small e j l =
    let first : f c < 256 = rw add-zero at (small 0 (omega arith)) in
    go (sym (bytes_of_word _ _ _ _ (b (4 * i)) (b (4 * i + 1)) (b (4 * i + 2)) (b (4 * i + 3))) ∙ ap bytes_of (sym (word_there file i h) ∙ e)
    ∙ bytes_of_word _ _ _ _ first (small 1 (omega arith)) (small 2 (omega arith)) (small 3 (omega arith))) j l
  where
    go : get_or file (4 * i) 0 ∷ get_or file (4 * i + 1) 0 ∷ get_or file (4 * i + 2) 0 ∷ get_or file (4 * i + 3) 0 ∷ []
        ≡ f c ∷ f (c + 1) ∷ f (c + 2) ∷ f (c + 3) ∷ []
        → (j : ℕ) → j < 4 → get_or file (4 * i + j) 0 ≡ f (c + j)
    go same zero l = rw (add-zero (4 * i), add-zero c) (ap (λ (x : List ℕ). get_or x 0 0) same)
    go same (suc zero) l = ap (λ (x : List ℕ). get_or x 1 0) same
    go same (suc (suc zero)) l = ap (λ (x : List ℕ). get_or x 2 0) same
    go same (suc (suc (suc zero))) l = ap (λ (x : List ℕ). get_or x 3 0) same
    go same (suc (suc (suc (suc j)))) l = absurd (omega arith)

pub length_with_word : (file : List ℕ) (i w : ℕ) → length (with_word file i w) ≡ length file
unfolding with_word
length_with_word file i w =
    either (λ (f : List ℕ). length f ≡ length file) (whole file i) (length-sets file (4 * i) (bytes_of w)) refl

bytes_set : (l : List ℕ) (j a : ℕ) → a < 256 → Bytes l → Bytes (set l j a)
bytes_set [] j a h b i = b i
bytes_set (x ∷ xs) zero a h b zero = h
bytes_set (x ∷ xs) zero a h b (suc i) = b (suc i)
bytes_set (x ∷ xs) (suc j) a h b zero = b zero
bytes_set (x ∷ xs) (suc j) a h b (suc i) = bytes_set xs j a h (λ k. b (suc k)) i

bytes_sets : (vs l : List ℕ) (n : ℕ) → Bytes vs → Bytes l → Bytes (sets l n vs)
bytes_sets [] l n c b = b
bytes_sets (a ∷ vs) l n c b = bytes_sets vs (set l n a) (suc n) (λ i. c (suc i)) (bytes_set l n a (c zero) b)

pub bytes_with_word : (file : List ℕ) → Bytes file → (i w : ℕ) → Bytes (with_word file i w)
unfolding with_word
bytes_with_word file b i w = either Bytes (whole file i) (bytes_sets (bytes_of w) file (4 * i) (bytes_of_lem w) b) b

-- Putting in word i leaves every other word: byte m is one of word j.
byte_other : (file : List ℕ) (i w j m : ℕ) → (j ≡ i → ⊥) → m / 4 ≡ j → get_or (with_word file i w) m 0 ≡ get_or file m 0
unfolding with_word
byte_other file i w j m ne e =
    let a : m ≢ 4 * i = λ h. ne (omega arith) in
    let b : m ≢ suc (4 * i) = λ h. ne (omega arith) in
    let c : m ≢ suc (suc (4 * i)) = λ h. ne (omega arith) in
    let d : m ≢ suc (suc (suc (4 * i))) = λ h. ne (omega arith) in
    either (λ f. get_or f m 0 ≡ get_or file m 0) (whole file i) (simp get_or-set_other) refl

pub word_with_other : (file : List ℕ) (i w j : ℕ) → (j ≡ i → ⊥) → word_at (with_word file i w) j ≡ word_at file j
unfolding word_at
word_with_other file i w j ne =
    rw (
      length_with_word,
      byte_other file i w j (4 * j) ne (omega arith),
      byte_other file i w j (4 * j + 1) ne (omega arith),
      byte_other file i w j (4 * j + 2) ne (omega arith),
      byte_other file i w j (4 * j + 3) ne (omega arith),
    )

-- The word that follows 4 * i bytes is word i.
pub word_after : (p : List ℕ) (i w : ℕ) (rest : List ℕ) → length p ≡ 4 * i → w < 4_294_967_296
    → word_at (p ++ (bytes_of w ++ rest)) i ≡ w
unfolding word_at
word_after p i w rest e h =
    rw (lt-ltb i (length (p ++ (bytes_of w ++ rest)) / 4) (simp length-append (omega arith)), ← e)
    (simp (get_or-append_seam, get_or-append-add) (word_of_bytes w h))

pub with_word_after : (p : List ℕ) (i : ℕ) (rest : List ℕ) (x : ℕ) → length p ≡ 4 * i → 4 ≤ length rest
    → with_word (p ++ rest) i x ≡ p ++ (bytes_of x ++ drop 4 rest)
unfolding with_word
with_word_after p i rest x e h =
    let fits : 4 * i + 4 ≤ length (p ++ rest) = simp length-append (omega arith) in
    rw (
      lt-ltb i (length (p ++ rest) / 4) (omega arith),
      sets-eq (bytes_of x) (p ++ rest) (4 * i),
      ← e,
      take-append_seam,
      drop-append-add,
      append_assoc,
    )

pub word_with_same : (file : List ℕ) (i w : ℕ) → i < length file / 4 → w < 4_294_967_296
    → word_at (with_word file i w) i ≡ w
word_with_same file i w h small =
    let p : List ℕ = take (4 * i) file in
    let rest : List ℕ = drop (4 * i) file in
    let e : length p ≡ 4 * i = length-take-le (4 * i) file (omega arith) in
    ap (λ (f : List ℕ). word_at (with_word f i w) i) (sym (take-append-drop (4 * i) file))
    ∙ rw (with_word_after p i rest w e (simp length-drop (omega arith))) (word_after p i w (drop 4 rest) e small)

-- Words laid out are bytes, four for each, and are read again as they were.
pub length-laid : (w : ℕ → ℕ) (k : ℕ) → length (laid w k) ≡ 4 * k
unfolding laid
length-laid w zero = refl
length-laid w (suc k) = simp (length-append, length-laid w k) (omega arith)

pub bytes_append : (l m : List ℕ) → Bytes l → Bytes m → Bytes (l ++ m)
bytes_append [] m b c i = c i
bytes_append (x ∷ xs) m b c zero = b zero
bytes_append (x ∷ xs) m b c (suc i) = bytes_append xs m (λ k. b (suc k)) c i

pub bytes_laid : (w : ℕ → ℕ) (k : ℕ) → Bytes (laid w k)
unfolding laid
bytes_laid w zero i = omega arith
bytes_laid w (suc k) i = bytes_append (laid w k) (bytes_of (w k)) (bytes_laid w k) (bytes_of_lem (w k)) i

pub laid_same : (v w : ℕ → ℕ) (k : ℕ) → ((i : ℕ) → i < k → v i ≡ w i) → laid v k ≡ laid w k
unfolding laid
laid_same v w zero e = refl
laid_same v w (suc k) e = rw (laid_same v w k (λ i h. e i (omega arith)), e k (omega arith))

pub word_laid : (w : ℕ → ℕ) (k : ℕ) (rest : List ℕ) (i : ℕ) → i < k → w i < 4_294_967_296
    → word_at (laid w k ++ rest) i ≡ w i
unfolding laid
word_laid w zero rest i h small = absurd (omega arith)
word_laid w (suc k) rest i h small =
    rw append_assoc (go (le_or_lt k i) (λ l. word_laid w k (bytes_of (w k) ++ rest) i l small))
  where
    go : (k ≤ i) ⊎ (i < k) → (i < k → word_at (laid w k ++ (bytes_of (w k) ++ rest)) i ≡ w i)
        → word_at (laid w k ++ (bytes_of (w k) ++ rest)) i ≡ w i
    go (inl l) before =
        let e : k ≡ i = omega arith in
        rw e (word_after (laid w i) i (w i) rest (length-laid w i) small)
    go (inr l) before = before l

-- Words put in one after another, from the front.
pub laid_more : (w : ℕ → ℕ) (k : ℕ) (file : List ℕ) → 4 * k + 4 ≤ length file
    → with_word (laid w k ++ drop (4 * k) file) k (w k) ≡ laid w (k + 1) ++ drop (4 * (k + 1)) file
unfolding laid
laid_more w k file h =
    let n : 4 * (k + 1) ≡ 4 * k + 4 = omega arith in
    with_word_after (laid w k) k (drop (4 * k) file) (w k) (length-laid w k) (simp length-drop (omega arith))
    ∙ rw (n, ← drop-drop 4 (4 * k) file, add-one k, append_assoc)

-- Behind 4 * k bytes lie words k and on: they are read, and put in, as the words of those bytes alone.
module _ (front : List ℕ) (k : ℕ) (e : length front ≡ 4 * k) (rest : List ℕ) (i : ℕ) where
  whole_behind : whole (front ++ rest) (k + i) ≡ whole rest i
  whole_behind = go (le_or_lt (length rest / 4) i)
    where
      go : (length rest / 4 ≤ i) ⊎ (i < length rest / 4) → whole (front ++ rest) (k + i) ≡ whole rest i
      go (inl l) = le-ltb (k + i) _ (simp length-append (omega arith)) ∙ sym (le-ltb i _ l)
      go (inr l) = lt-ltb (k + i) _ (simp length-append (omega arith)) ∙ sym (lt-ltb i _ l)

  byte_behind : (m j : ℕ) → m ≡ length front + j → get_or (front ++ rest) m 0 ≡ get_or rest j 0
  byte_behind m j h = rw h (get_or-append-add front rest j 0)

  pub word_behind : word_at (front ++ rest) (k + i) ≡ word_at rest i
  unfolding word_at
  word_behind =
      rw (
        whole_behind,
        byte_behind (4 * (k + i)) (4 * i) (omega arith),
        byte_behind (4 * (k + i) + 1) (4 * i + 1) (omega arith),
        byte_behind (4 * (k + i) + 2) (4 * i + 2) (omega arith),
        byte_behind (4 * (k + i) + 3) (4 * i + 3) (omega arith),
      )

  pub with_word_behind : (w : ℕ) → with_word (front ++ rest) (k + i) w ≡ front ++ with_word rest i w
  with_word_behind w = go (le_or_lt (length rest / 4) i)
    where
      go : (length rest / 4 ≤ i) ⊎ (i < length rest / 4) → with_word (front ++ rest) (k + i) w ≡ front ++ with_word rest i w
      go (inl l) = rw (with_word_past (front ++ rest) (k + i) w (simp length-append (omega arith)), with_word_past rest i w l)
      go (inr l) =
          let p : List ℕ = take (4 * i) rest in
          let q : List ℕ = drop (4 * i) rest in
          let size : length p ≡ 4 * i = length-take-le (4 * i) rest (omega arith) in
          let room : 4 ≤ length q = simp length-drop (omega arith) in
          let whole_size : length (front ++ p) ≡ 4 * (k + i) = simp length-append (omega arith) in
          ap (λ (f : List ℕ). with_word (front ++ f) (k + i) w) (sym (take-append-drop (4 * i) rest))
          ∙ ap (λ (f : List ℕ). with_word f (k + i) w) (sym (append_assoc front p q))
          ∙ with_word_after (front ++ p) (k + i) q w whole_size room
          ∙ append_assoc front p (bytes_of w ++ drop 4 q)
          ∙ ap (λ (f : List ℕ). front ++ f)
          (sym (with_word_after p i q w size room) ∙ ap (λ (f : List ℕ). with_word f i w) (take-append-drop (4 * i) rest))

-- And bytes that are read as words and laid out are as they were.
pub laid_words : (file : List ℕ) → Bytes file → (k : ℕ) → 4 * k ≤ length file → laid (word_at file) k ≡ take (4 * k) file
unfolding laid word_at
laid_words file b zero h = refl
laid_words file b (suc k) h =
    let n : 4 * suc k ≡ suc (suc (suc (suc (4 * k)))) = omega arith in
    rw (
      n,
      take-suc file (suc (suc (suc (4 * k)))) 0 (omega arith),
      take-suc file (suc (suc (4 * k))) 0 (omega arith),
      take-suc file (suc (4 * k)) 0 (omega arith),
      take-suc file (4 * k) 0 (omega arith),
      laid_words file b k (omega arith),
      lt-ltb k (length file / 4) (omega arith),
      bytes_of_word _ _ _ _ (b (4 * k)) (b (4 * k + 1)) (b (4 * k + 2)) (b (4 * k + 3)),
    )
    (simp (append_assoc, towards_suc))
