-- Pieces of a text that are put into a buffer one after the other make one piece.
-- Stands because docs/PORT-NAMES.md names these; no function cites them today, for a text that is written has a model (listing).
use Prim.Native.Nat.{ℕ, zero, suc, ◌+◌, ◌≤◌, ◌<◌}
use mathlib.Core.Path.{◌≡◌, refl, sym, ◌∙◌, ap, subst}
use mathlib.Core.Logic.{◌⊎◌, inl, inr}
use mathlib.Core.List.{List, [], ◌∷◌, ◌++◌}
use native.Mathlib.Nat.{add-zero, zero-add, suc-add, add-suc}
use native.Mathlib.Numerals.{add-one}
use native.Mathlib.Omega.{arith}
use lib.ListN.{length, get_or, set, take, drop, length-append}
use lib.Seq.{sets, length-sets, sets-eq, take-suc, take_at}
use Rattle.laws.proofs.Search.{le_or_lt}
use Rattle.texts.specs.Appended.{Appended}
use Rattle.texts.specs.Listing.{each}

sets_append : (t : List ℕ) (i : ℕ) (p q : List ℕ) → sets t i (p ++ q) ≡ sets (sets t i p) (i + length p) q
sets_append t i [] q = ap (λ (k : ℕ). sets t k q) (sym (add-zero i))
sets_append t i (a ∷ p) q =
    sets_append (set t i a) (suc i) p q
    ∙ ap (λ (k : ℕ). sets (sets (set t i a) (suc i) p) k q) (suc-add i (length p) ∙ sym (add-suc i (length p)))

pub appended_none : (t : List ℕ) (i : ℕ) → Appended t i [] t i
appended_none t i = record { bytes = refl; end = sym (add-zero i) }

module _ {t u : List ℕ} {i j : ℕ} {p : List ℕ} (a : Appended t i p u j) where
  pub length_kept : length u ≡ length t
  length_kept = ap length a.bytes ∙ length-sets t i p

  pub appended_as : {q : List ℕ} → p ≡ q → Appended t i q u j
  appended_as e = subst (λ (q : List ℕ). Appended t i q u j) e a

  pub appended_then : {w : List ℕ} {k : ℕ} {q : List ℕ} → Appended u j q w k → Appended t i (p ++ q) w k
  appended_then {w} {k} {q} b =
      record {
        bytes = b.bytes ∙ rw (a.bytes, a.end) (sym (sets_append t i p q));
        end = rw length-append (omega (arith, a.end, b.end));
      }

  pub appended_byte : (b : ℕ) → Appended t i (p ++ (b ∷ [])) (set u j b) (j + 1)
  appended_byte b = appended_then (record { bytes = refl; end = refl })

  -- Where there is room for two pieces, there is room for the second after the first.
  pub room_then : (q : List ℕ) → i + length (p ++ q) ≤ length t → j + length q ≤ length u
  room_then q room = omega (arith, a.end, length_kept, length-append p q)

pub room_first : (i : ℕ) (p q t : List ℕ) → i + length (p ++ q) ≤ length t → i + length p ≤ length t
room_first i p q t room = omega (arith, length-append p q)

-- One more byte of a piece that is copied byte by byte.
pub copied_more : {t u : List ℕ} (i k : ℕ) (p : List ℕ) → Appended t i (take k p) u (i + k) → k < length p
    → Appended t i (take (k + 1) p) (set u (i + k) (get_or p k 0)) (i + (k + 1))
copied_more i k p a h =
    let more = appended_byte a (get_or p k 0) in
    rw (add-one k, take-suc p k 0 h) (record { bytes = more.bytes; end = omega (arith, more.end) })

each_suc : (n : ℕ) (f : ℕ → List ℕ) → each (n + 1) f ≡ each n f ++ f n
unfolding each
each_suc n f = rw (add-one n)

each_grows : (f : ℕ → List ℕ) (k n : ℕ) → k ≤ n → length (each k f) ≤ length (each n f)
unfolding each
each_grows f k zero h = let e : k ≡ 0 = omega arith in rw e (omega arith)
each_grows f k (suc n) h = go (le_or_lt k n) (each_grows f k n)
  where
    go : (k ≤ n) ⊎ (n < k) → (k ≤ n → length (each k f) ≤ length (each n f)) → length (each k f) ≤ length (each (suc n) f)
    go (inl l) fewer = omega (arith, fewer l, length-append (each n f) (f n))
    go (inr l) fewer = let e : k ≡ suc n = omega arith in rw e (omega arith)

module _ (f : ℕ → List ℕ) {t u : List ℕ} {i j k : ℕ} (a : Appended t i (each k f) u j) where
  pub each_more : {w : List ℕ} {l : ℕ} → Appended u j (f k) w l → Appended t i (each (k + 1) f) w l
  each_more b = appended_as (appended_then a b) (sym (each_suc k f))

  -- Where there is room for n texts, there is room for the next of them.
  pub room_each : (n : ℕ) → k < n → i + length (each n f) ≤ length t → j + length (f k) ≤ length u
  room_each n h room =
      room_then a (f k) (rw (← each_suc k f) (omega (arith, each_grows f (k + 1) n (omega arith))))

-- A text that was put at the beginning of a buffer.
module _ {t u : List ℕ} {j : ℕ} {p : List ℕ} (a : Appended t 0 p u j) where
  pub text_end : j ≡ length p
  text_end = a.end ∙ zero-add (length p)

  pub text_in_front : length p ≤ length t → u ≡ p ++ drop (length p) t
  text_in_front room = a.bytes ∙ sets-eq p t 0 (rw zero-add room) ∙ ap (λ (k : ℕ). p ++ drop k t) (zero-add (length p))

  pub text_taken : length p ≤ length t → take j u ≡ p
  text_taken room = rw (text_in_front room) (take_at p (drop (length p) t) j (sym text_end))
