-- The cells of one input: how they are put into a table, and which keep the 0 that it starts with.
use Prim.Native.Nat.{ℕ, zero, suc, ◌+◌, ◌-◌, ◌*◌, ◌≤◌, ◌<◌}
use mathlib.Core.Path.{◌≡◌, refl, sym, ◌∙◌, ap, ap₂}
use mathlib.Core.Bool.{true, false}
use mathlib.Core.List.{List, [], ◌++◌, append-nil}
use mathlib.Core.Logic.{◌⊎◌, inl, inr}
use native.Mathlib.Nat.{add-zero, add-suc}
use native.Mathlib.Numerals.{add-one}
use native.Mathlib.Omega.{arith}
use lib.ListN.{length, get_or, set, drop, length-append, length-drop}
use lib.Seq.{drop-cons, drop-length, set_at}
use Rattle.laws.specs.Lists.{list}
use Rattle.laws.proofs.Lists.{length-list, filled_more}
use Rattle.switch.specs.Cells.{input, output, input_of, output_of}
use Rattle.switch.specs.Tables.{used_at, request_of}
use Rattle.switch.specs.declared.port.Input.{Input}
use Rattle.switch.specs.declared.request.Request.{Request}
use Rattle.switch.proofs.Cells.{input_of_cell, used_of_below, unused_of_past, used_cell_of_ports, used_cell_of_cell}
use Rattle.worked.specs.Saturated.{ports}
use Rattle.worked.specs.Port.{input_port}
use Rattle.worked.specs.Overwritten.{overwritten}
use Rattle.worked.specs.Reason.{reason_in, reason_at}
use Rattle.worked.specs.declared.port.Port.{Port}

pub overwritten_more : (from k : ℕ) (f : ℕ → ℕ) (t : List ℕ)
    → set (overwritten from k f t) (from + k) (f (from + k)) ≡ overwritten from (k + 1) f t
unfolding overwritten
overwritten_more from k f t = rw (add-one k)

-- Only the numbers that are put in have to agree.
pub overwritten_same : (from k : ℕ) (f g : ℕ → ℕ) (t : List ℕ) → ((i : ℕ) → i < k → f (from + i) ≡ g (from + i))
    → overwritten from k f t ≡ overwritten from k g t
unfolding overwritten
overwritten_same from zero f g t same = refl
overwritten_same from (suc k) f g t same =
    ap₂ (λ l x. set l (from + k) x) (overwritten_same from k f g t (λ i h. same i (omega arith))) (same k (omega arith))

-- A table that is filled from the front by a rule, as many numbers at a time as one likes.
pub filled_on : (n k : ℕ) (f : ℕ → ℕ) (d : List ℕ) → n + k ≤ length d
    → overwritten n k f (list n f ++ drop n d) ≡ list (n + k) f ++ drop (n + k) d
unfolding overwritten
filled_on n zero f d h = rw (add-zero n)
filled_on n (suc k) f d h =
    ap (λ t. set t (n + k) (f (n + k))) (filled_on n k f d (omega arith))
    ∙ filled_more (n + k) f d (omega arith)
    ∙ rw (add-suc n k, add-one (n + k))

pub length-filled : (n : ℕ) (f : ℕ → ℕ) (d : List ℕ) → n ≤ length d → length (list n f ++ drop n d) ≡ length d
length-filled n f d h = simp (length-append, length-list, length-drop) (omega arith)

-- Where the table already holds what the rule says, nothing has to be put in.
already : (n : ℕ) (f : ℕ → ℕ) (d : List ℕ) → n < length d → get_or d n 0 ≡ f n
    → list n f ++ drop n d ≡ list (n + 1) f ++ drop (n + 1) d
already n f d h e =
    sym (rw (drop-cons d n 0 h, e) (set_at (list n f) (f n) (drop (suc n) d) (f n) n (length-list n f)))
    ∙ filled_more n f d h

pub filled_already : (n k : ℕ) (f : ℕ → ℕ) (d : List ℕ) → n + k ≤ length d
    → ((i : ℕ) → i < k → get_or d (n + i) 0 ≡ f (n + i))
    → list n f ++ drop n d ≡ list (n + k) f ++ drop (n + k) d
filled_already n zero f d h same = rw (add-zero n)
filled_already n (suc k) f d h same =
    filled_already n k f d (omega arith) (λ i l. same i (omega arith))
    ∙ already (n + k) f d (omega arith) (same k (omega arith))
    ∙ rw (add-suc n k, add-one (n + k))

-- A table of 64 zeros, into which the used cells of one input after another are put.
module _ (m n b : ℕ) (inputs demands xs d : List ℕ) (room : length d ≡ 64) (zeros : (c : ℕ) → c < 64 → get_or d c 0 ≡ 0) where
  r : Request
  r = request_of m n inputs [] demands

  unused_zero : (c : ℕ) → c < 64 → (m ≤ (input_of c).0) ⊎ (n ≤ (output_of c).0)
      → get_or d c 0 ≡ reason_at m n inputs demands b xs c
  unfolding r
  unused_zero c h past =
      let unused : used_at m n c ≡ false = used_cell_of_ports r c h ∙ unused_of_past r (input_of c) (output_of c) past in
      zeros c h ∙ rw unused

  used_cell_lem : (u v : ℕ) → u < ports m → v < ports n → used_at m n (8 * u + v) ≡ true
  unfolding r
  used_cell_lem u v hu hv =
      used_cell_of_cell r (input u) (output v) (omega arith) (omega arith)
      ∙ used_of_below r (input u) (output v) (omega arith) (omega arith)

  reason_in_row : (u : ℕ) → u < ports m → (v : ℕ) → v < ports n
      → reason_in (input_port n xs (input u)) (get_or inputs u 0) demands b xs (8 * u + v) ≡ reason_at m n inputs demands b xs (8 * u + v)
  reason_in_row u hu v hv =
      rw (used_cell_lem u v hu hv)
      (ap (λ (k : Input). reason_in (input_port n xs k) (get_or inputs k.0 0) demands b xs (8 * u + v))
      (sym (input_of_cell (input u) (output v) (omega arith) (omega arith))))

  pub row_filled : (u : ℕ) → u < ports m → {port : Port} {capacity : ℕ} {t after : List ℕ}
      → port ≡ input_port n xs (input u) → capacity ≡ get_or inputs u 0
      → t ≡ list (8 * u) (reason_at m n inputs demands b xs) ++ drop (8 * u) d
      → after ≡ overwritten (8 * u) (ports n) (reason_in port capacity demands b xs) t
      → after ≡ list (8 * (u + 1)) (reason_at m n inputs demands b xs) ++ drop (8 * (u + 1)) d
  row_filled u hu {port} {capacity} known given before put =
      let next : 8 * u + ports n + (8 - ports n) ≡ 8 * (u + 1) = omega arith in
      put
      ∙ ap (overwritten (8 * u) (ports n) (reason_in port capacity demands b xs)) before
      ∙ overwritten_same (8 * u) (ports n) _ (reason_at m n inputs demands b xs) _
      (λ v hv. ap₂ (λ (p : Port) k. reason_in p k demands b xs (8 * u + v)) known given ∙ reason_in_row u hu v hv)
      ∙ filled_on (8 * u) (ports n) (reason_at m n inputs demands b xs) d (omega arith)
      ∙ filled_already (8 * u + ports n) (8 - ports n) (reason_at m n inputs demands b xs) d (omega arith)
      (λ i h. unused_zero (8 * u + ports n + i) (omega arith) (inr (omega arith)))
      ∙ rw next

  pub rows_filled : list (8 * ports m) (reason_at m n inputs demands b xs) ++ drop (8 * ports m) d
      ≡ list 64 (reason_at m n inputs demands b xs)
  rows_filled =
      let next : 8 * ports m + (64 - 8 * ports m) ≡ 64 = omega arith in
      filled_already (8 * ports m) (64 - 8 * ports m) (reason_at m n inputs demands b xs) d (omega arith)
      (λ i h. unused_zero (8 * ports m + i) (omega arith) (inl (omega arith)))
      ∙ rw (next, ap (λ k. drop k d) (sym room) ∙ drop-length d) (append-nil _)
