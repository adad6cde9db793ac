-- The words of a request's block: what each says, and that each is a number of 32 bits.
use Prim.Native.Nat.{ℕ, zero, suc, ◌+◌, ◌≤◌, ◌<◌}
use mathlib.Core.Logic.{◌⊎◌, inl, inr}
use mathlib.Core.Path.{◌≡◌, refl, subst}
use native.Mathlib.Nat.{add_assoc, add-sub_cancel_left, le_dest}
use native.Mathlib.Omega.{arith}
use borrow.Author.Tests.{lt-ltb, le-ltb}
use Rattle.laws.proofs.Search.{le_or_lt}
use Rattle.switch.specs.Cells.{input, output, cell_of, input_of, output_of, input_capacity, output_capacity, demand_of}
use Rattle.switch.specs.Within.{Within}
use Rattle.switch.specs.declared.port.Input.{Input}
use Rattle.switch.specs.declared.port.Output.{Output}
use Rattle.switch.specs.declared.request.Request.{Request}
use Rattle.switch.proofs.Cells.{cell_below, cell_of-ports}
use Rattle.formats.specs.RequestFile.{Holds, request_word}

-- What holds of the n numbers from a on, and of those after them, holds of all from a on.
pub from : (Q : ℕ → Type 0) (a n : ℕ) → ((k : ℕ) → k < n → Q (a + k)) → ((i : ℕ) → a + n ≤ i → Q i) → (i : ℕ) → a ≤ i → Q i
from Q a n here later i h = go (le_or_lt (a + n) i)
  where
    go : (a + n ≤ i) ⊎ (i < a + n) → Q i
    go (inl l) = later i l
    go (inr l) = let (k, e) = le_dest h in subst Q e (here k (omega arith))

-- What holds of each part of a request's block holds of every word.
pub by_word : (Q : ℕ → Type 0) → Q 0 → Q 1 → Q 2 → ((k : ℕ) → k < 8 → Q (3 + k)) → ((k : ℕ) → k < 8 → Q (11 + k))
    → ((k : ℕ) → k < 64 → Q (19 + k)) → ((i : ℕ) → 83 ≤ i → Q i) → (i : ℕ) → Q i
by_word Q kind m n inputs outputs demands spare zero = kind
by_word Q kind m n inputs outputs demands spare (suc zero) = m
by_word Q kind m n inputs outputs demands spare (suc (suc zero)) = n
by_word Q kind m n inputs outputs demands spare (suc (suc (suc i))) =
    from Q 3 8 inputs (from Q 11 8 outputs (from Q 19 64 demands spare)) (suc (suc (suc i))) (omega arith)

-- Each word is found by passing the tests before it.
module _ (r : Request) where
  pub word_input : (k : ℕ) → k < 8 → request_word r (3 + k) ≡ input_capacity r (input k)
  unfolding request_word
  word_input k h =
      let i = 3 + k in
      rw (
        le-ltb i 1 (omega arith),
        le-ltb i 2 (omega arith),
        le-ltb i 3 (omega arith),
        lt-ltb i 11 (omega arith),
        add-sub_cancel_left 3 k,
      )

  pub word_output : (k : ℕ) → k < 8 → request_word r (11 + k) ≡ output_capacity r (output k)
  unfolding request_word
  word_output k h =
      let i = 11 + k in
      rw (
        le-ltb i 1 (omega arith),
        le-ltb i 2 (omega arith),
        le-ltb i 3 (omega arith),
        le-ltb i 11 (omega arith),
        lt-ltb i 19 (omega arith),
        add-sub_cancel_left 11 k,
      )

  pub word_demand : (k : ℕ) → k < 64 → request_word r (19 + k) ≡ demand_of r k
  unfolding request_word
  word_demand k h =
      let i = 19 + k in
      rw (
        le-ltb i 1 (omega arith),
        le-ltb i 2 (omega arith),
        le-ltb i 3 (omega arith),
        le-ltb i 11 (omega arith),
        le-ltb i 19 (omega arith),
        lt-ltb i 83 (omega arith),
        add-sub_cancel_left 19 k,
      )

  pub word_spare : (i : ℕ) → 83 ≤ i → request_word r i ≡ 0
  unfolding request_word
  word_spare i h =
      rw (
        le-ltb i 1 (omega arith),
        le-ltb i 2 (omega arith),
        le-ltb i 3 (omega arith),
        le-ltb i 11 (omega arith),
        le-ltb i 19 (omega arith),
        le-ltb i 83 (omega arith),
      )

  -- The rule and the record say the same of every word.
  pub holds_request_word : Holds (request_word r) r
  unfolding request_word
  holds_request_word =
      record {
        kind = refl;
        inputs = refl;
        outputs = refl;
        input_capacity_within = λ u. word_input u.0;
        output_capacity_within = λ v. word_output v.0;
        demand = λ u v hu hv. rw add_assoc (word_demand (cell_of u v) (cell_below u v hu hv));
        spare = λ i h l. word_spare i h;
      }

-- A number that is at most 2 ^ 24 where it is used, and 0 where not, is a number of 32 bits.
module _ (r : Request) (w : Within r) where
  input_below : (k : ℕ) → k < 8 → input_capacity r (input k) < 4_294_967_296
  input_below k h = go (le_or_lt r.m k)
    where
      go : (r.m ≤ k) ⊎ (k < r.m) → input_capacity r (input k) < 4_294_967_296
      go (inl l) = omega (arith, w.unused_input (input k) l h)
      go (inr l) = omega (arith, w.input_capacity_within (input k) l)

  output_below : (k : ℕ) → k < 8 → output_capacity r (output k) < 4_294_967_296
  output_below k h = go (le_or_lt r.n k)
    where
      go : (r.n ≤ k) ⊎ (k < r.n) → output_capacity r (output k) < 4_294_967_296
      go (inl l) = omega (arith, w.unused_output (output k) l h)
      go (inr l) = omega (arith, w.output_capacity_within (output k) l)

  demand_below : (u : Input) (v : Output) → u.0 < 8 → v.0 < 8 → demand_of r (cell_of u v) < 4_294_967_296
  demand_below u v hu hv = go (le_or_lt r.m u.0) (le_or_lt r.n v.0)
    where
      go : (r.m ≤ u.0) ⊎ (u.0 < r.m) → (r.n ≤ v.0) ⊎ (v.0 < r.n) → demand_of r (cell_of u v) < 4_294_967_296
      go (inl l) b = omega (arith, w.unused_cell u v hu hv (inl l))
      go (inr l) (inl k) = omega (arith, w.unused_cell u v hu hv (inr k))
      go (inr l) (inr k) = omega (arith, w.demand u v l k)

  pub request_word_below : (i : ℕ) → request_word r i < 4_294_967_296
  unfolding request_word
  request_word_below =
      by_word (λ i. request_word r i < 4_294_967_296) (omega arith) (omega (arith, w.inputs)) (omega (arith, w.outputs))
      (λ k h. rw (word_input r k h) (input_below k h))
      (λ k h. rw (word_output r k h) (output_below k h))
      (λ k h. rw (word_demand r k h, ← cell_of-ports k h)
      (demand_below (input_of k) (output_of k) (omega arith) (omega arith)))
      (λ i h. rw (word_spare r i h) (omega arith))
