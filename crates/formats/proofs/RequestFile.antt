-- What is read of a request's file: the request, with its own verdict, and of no other file a request; one damaged word is
-- refused.
use Prim.Native.Nat.{ℕ, ◌+◌, ◌≤◌, ◌<◌}
use mathlib.Core.Path.{◌≡◌, refl, sym, ap, ap₂, subst, ◌∙◌}
use mathlib.Core.Bool.{false, not}
use mathlib.Core.Logic.{◌↔◌}
use mathlib.Core.List.{List, [], ◌++◌, append-nil}
use native.Mathlib.Nat.{zero-add}
use native.Mathlib.Omega.{arith}
use lib.ListN.{length, get_or}
use lib.Seq.{ext_get_or, take_all}
use borrow.Author.Tests.{eq-eqb, eqb-true}
use Rattle.laws.specs.Lists.{list}
use Rattle.laws.proofs.Lists.{cells-list, length-list}
use Rattle.words.specs.Words.{Bytes, bytes_of, word_at, with_word, laid}
use Rattle.words.specs.Check.{check, sealed, start_of, word_in}
use Rattle.words.proofs.Words.{length_with_word, laid_words, laid_same}
use Rattle.words.proofs.Sealed.{running_same, file_damage_seen, length_block, block_words, block_sealed}
use Rattle.switch.specs.RequestRows.{request_verdict}
use Rattle.switch.specs.Rows.{refusal}
use Rattle.switch.specs.Values.{zero_request}
use Rattle.switch.specs.Within.{Within, Shaped}
use Rattle.switch.specs.declared.request.Request.{Request}
use Rattle.switch.specs.declared.verdict.Cause.TheVariants.{Check}
use Rattle.switch.specs.declared.verdict.Refusal.{Refusal}
use Rattle.switch.specs.declared.verdict.Verdict.TheVariants.{Accepted, Refused}
use Rattle.switch.proofs.Rows.{verdict_at_lem, verdict_past}
use Rattle.switch.proofs.Search.{at_of_first, nothing_of_silent}
use Rattle.switch.proofs.Within.{accepted_of_within}
use Rattle.formats.specs.FileRows.{length_row, check_row}
use Rattle.formats.specs.RequestFile.{request_word, request_file, request_in, read_verdict, request_read}
use Rattle.formats.proofs.Content.{by_word, word_input, word_output, word_demand, word_spare, request_word_below}
use Rattle.formats.proofs.Sound.{sound_of_accepted, read_as_checked}

pub length_file : (r : Request) → length (request_file r) ≡ 512
length_file r = length_block (start_of 0) (request_word r)

pub read_accepted : (file : List ℕ) → read_verdict file ≡ Accepted → request_read file ≡ record { verdict = Accepted; request = request_in file }
read_accepted file e = rw e

pub refused_read_is_zero : (file : List ℕ) (x : Refusal) → read_verdict file ≡ Refused x → (request_read file).request ≡ zero_request
refused_read_is_zero file x e = rw e

-- A request's file holds the request, whose numbers are words.
module _ (r : Request) (small : (i : ℕ) → request_word r i < 4_294_967_296) where
  pub file_word : (rest : List ℕ) (i : ℕ) → i < 127 → word_at (request_file r ++ rest) i ≡ request_word r i
  file_word rest i h = block_words (start_of 0) (request_word r) rest i h (small i)

  -- a table of n numbers that stand in the words from `from` on
  table : (rest : List ℕ) (from n : ℕ) (xs : List ℕ) → from + n ≤ 127 → length xs ≡ n
      → ((k : ℕ) → k < n → request_word r (from + k) ≡ get_or xs k 0)
      → list n (λ k. word_at (request_file r ++ rest) (from + k)) ≡ xs
  table rest from n xs fits size same =
      let e = length-list n (λ k. word_at (request_file r ++ rest) (from + k)) in
      ext_get_or 0 _ xs (e ∙ sym size)
      (λ k h. let l : k < n = omega arith in cells-list n _ k l ∙ file_word rest (from + k) (omega arith) ∙ same k l)

  pub request_in_file : Shaped r → (rest : List ℕ) → request_in (request_file r ++ rest) ≡ r
  unfolding request_word
  request_in_file t rest i =
      record {
        m = file_word rest 1 (omega arith) i;
        n = file_word rest 2 (omega arith) i;
        inputs = table rest 3 8 r.inputs (omega arith) t.inputs (word_input r) i;
        outputs = table rest 11 8 r.outputs (omega arith) t.outputs (word_output r) i;
        demands = table rest 19 64 r.demands (omega arith) t.demands (word_demand r) i;
      }

  -- so the file's verdict is the request's own
  pub checked_as_file : Shaped r → read_verdict (request_file r) ≡ request_verdict r
  unfolding request_word
  checked_as_file t =
      let alone : request_file r ++ [] ≡ request_file r = append-nil (request_file r) in
      ap read_verdict (sym alone)
      ∙ read_as_checked (request_file r ++ []) (ap length alone ∙ length_file r)
      (block_sealed (start_of 0) (request_word r) [] (λ i h. small i)) (file_word [] 0 (omega arith))
      (λ i h l. file_word [] i (omega arith) ∙ word_spare r i h)
      ∙ ap request_verdict (request_in_file t [])

-- If it is within the limits, its file is accepted.
module _ (r : Request) (w : Within r) where
  words : (i : ℕ) → request_word r i < 4_294_967_296
  words = request_word_below r w

  pub read_accepts_written : Shaped r → read_verdict (request_file r) ≡ Accepted
  read_accepts_written t = checked_as_file r words t ∙ accepted_of_within r w

  pub read_back : Shaped r → request_read (request_file r) ≡ record { verdict = Accepted; request = r }
  read_back t =
      let same : request_in (request_file r) ≡ r = rw (append-nil (request_file r)) at (request_in_file r words t []) in
      read_accepted (request_file r) (read_accepts_written t) ∙ rw same

-- An accepted file is the file of the request that is read from it.
module _ (file : List ℕ) (bytes : Bytes file) (e : read_verdict file ≡ Accepted) where
  same_word : (i : ℕ) → i < 127 → request_word (request_in file) i ≡ word_at file i
  unfolding request_word
  same_word =
      let s = sound_of_accepted file e in
      by_word (λ i. i < 127 → request_word (request_in file) i ≡ word_at file i) (λ l. sym s.kind) (λ l. refl) (λ l. refl)
      (λ k h l. word_input (request_in file) k h ∙ cells-list 8 _ k h)
      (λ k h l. word_output (request_in file) k h ∙ cells-list 8 _ k h)
      (λ k h l. word_demand (request_in file) k h ∙ cells-list 64 _ k h)
      (λ i h l. word_spare (request_in file) i h ∙ sym (s.spare i h (omega arith)))

  same_check : check (start_of 0) (request_word (request_in file)) ≡ word_at file 127
  same_check =
      running_same (start_of 0) (request_word (request_in file)) (word_in file 0) 127 (λ i h. rw zero-add (same_word i h))
      ∙ sym (eqb-true (word_at file 127) (check (start_of 0) (word_in file 0)) (sound_of_accepted file e).passes)

  pub written_of_accepted : request_file (request_in file) ≡ file
  unfolding laid
  written_of_accepted =
      let size = (sound_of_accepted file e).size in
      ap₂ (λ (x y : List ℕ). x ++ y) (laid_same (request_word (request_in file)) (word_at file) 127 same_word) (ap bytes_of same_check)
      ∙ laid_words file bytes 128 (omega arith) ∙ take_all 512 file (omega arith)

  damage_unseals : (k w : ℕ) → k < 128 → w < 4_294_967_296 → (w ≡ word_at file k → ⊥)
      → sealed (start_of 0) (word_in (with_word file k w) 0) ≡ false
  damage_unseals k w below small differs =
      let s = sound_of_accepted file e in
      subst (λ (n : ℕ). sealed (start_of 0) (word_in (with_word file n w) 0) ≡ false) (zero-add k)
      (file_damage_seen (start_of 0) file 0 k w bytes below (rw s.size (omega arith)) small
      (λ h. differs (rw zero-add at h)) s.passes)

  -- Row 2 refuses it, since the length is as it was.
  pub damage_refused : (k w : ℕ) → k < 128 → w < 4_294_967_296 → (w ≡ word_at file k → ⊥)
      → read_verdict (with_word file k w) ≡ refusal Check 127
  damage_refused k w below small differs =
      let damaged = with_word file k w in
      let size = length_with_word file k w ∙ (sound_of_accepted file e).size in
      verdict_past (length_row 512 damaged) _
      (nothing_of_silent (length_row 512 damaged) (λ i h. ap not (eq-eqb (length damaged) 512 size)))
      ∙ verdict_at_lem (check_row 1 damaged) _ 0
      (at_of_first (check_row 1 damaged)
      (record {
        below = omega arith;
        here = ap not (damage_unseals k w below small differs);
        earlier = λ i h. absurd (omega arith);
      }))

-- The files that are read are those that are written, and no others.
pub accepts_exactly_written : (file : List ℕ) → Bytes file
    → (read_verdict file ≡ Accepted) ↔ ((r : Request) × Within r × Shaped r × (file ≡ request_file r))
accepts_exactly_written file bytes = (
  λ e. (
    request_in file,
    (sound_of_accepted file e).within,
    record { inputs = length-list 8 _; outputs = length-list 8 _; demands = length-list 64 _ },
    sym (written_of_accepted file bytes e),
  ),
  λ (r, w, t, same). rw same (read_accepts_written r w t),
)
