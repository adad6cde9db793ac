-- Walks over the cells, one cell at a time or past cells that nothing is done to.
use Prim.Native.Nat.{ℕ, ◌+◌, ◌*◌, ◌≤◌, ◌<◌}
use mathlib.Core.Path.{◌≡◌, refl, sym, ◌∙◌, ap}
use mathlib.Core.Bool.{Bool, true}
use mathlib.Core.List.{List}
use mathlib.Core.Logic.{◌⊎◌, inl, inr}
use native.Mathlib.Omega.{arith}
use native.Mathlib.Nat.{le_dest}
use lib.ListN.{length, set, length-set}
use lib.Seq.{get_or-set_same, get_or-set_other, set-get_or, ext_get_or}
use Rattle.laws.specs.Lists.{cells, list}
use Rattle.laws.proofs.Lists.{cells-list, length-list}
use Rattle.laws.proofs.Search.{le_or_lt, eq_or_not}
use Rattle.fairness.specs.Total.{on, total}
use Rattle.fairness.proofs.Sums.{on_nothing, total_next, total_up, total_past}
use Rattle.planner.specs.Limits.{limits_of, through}
use Rattle.planner.specs.Tables.{Covers, Lowered, Halted, Roomy, RoomyBy, Scaled, Taken, Marked, Swept}
use Rattle.planner.specs.declared.tables.Tables.{Tables}

-- A flow that is given nothing changes no limit, and one that keeps its stage changes nothing.
-- Stands because docs/PORT-NAMES.md names these; no function cites them today.
pub lowered_none : (cards : Bool) (c x : ℕ) (t : List ℕ) → length t ≡ 20 → x ≡ 0 → Lowered cards c x t t
lowered_none cards c x t long e =
    record { long = (long, long); each = λ l h. omega (arith, on_nothing (through l c) x e) }

pub halted_marked : {cards : Bool} {c stage x weight : ℕ} {t : Tables} {stages : List ℕ} → stages ≡ set t.stages c stage → x ≡ 0
    → weight ≡ 0 → length t.left ≡ 20 → length t.parts ≡ 20 → Halted cards c stage x weight t (record t { stages = stages })
halted_marked {cards} {c} {stage} {x} {weight} {t} e ex ew long_l long_p =
    record {
      marked = e;
      taken = lowered_none cards c x t.left long_l ex;
      freed = lowered_none cards c weight t.parts long_p ew;
    }

pub halted_none : {cards : Bool} {c stage x weight : ℕ} {t : Tables} → stage ≡ cells t.stages c → x ≡ 0 → weight ≡ 0
    → length t.left ≡ 20 → length t.parts ≡ 20 → Halted cards c stage x weight t t
halted_none {cards} {c} {stage} {x} {weight} {t} e =
    halted_marked (sym (set-get_or t.stages c 0) ∙ ap (set t.stages c) (sym e))

module _ (cards : Bool) (x : ℕ → ℕ) (old new : List ℕ) where
  pub taken_none : length old ≡ 20 → Taken cards 0 x old old
  unfolding total
  taken_none long = record { long = long; each = λ l h. omega arith }

  pub covers_next : Roomy cards x old → (i : ℕ) → i < 64 → Taken cards i x old new → Covers cards i (x i) new
  covers_next room i low so_far =
      record {
        long = so_far.long;
        each = λ l h e.
            omega (
              arith,
              so_far.each l h,
              room.each l h,
              total_up (i + 1) 64 (through l) x (omega arith),
              total_next i (through l) x,
              here l e,
            );
      }
    where
      here : (l : ℕ) → through l i ≡ true → on (through l i) (x i) ≡ x i
      here l e = rw e

  pub taken_next : (i : ℕ) → Taken cards i x old new → (next : List ℕ) → Lowered cards i (x i) new next → Taken cards (i + 1) x old next
  taken_next i so_far next step =
      record {
        long = step.long.1;
        each = λ l h. omega (arith, so_far.each l h, step.each l h, total_next i (through l) x);
      }

  pub taken_past : (i j : ℕ) → i ≤ j → ((c : ℕ) → i ≤ c → c < j → x c ≡ 0) → Taken cards i x old new → Taken cards j x old new
  taken_past i j h none so_far =
      let w = le_dest h in
      record {
        long = so_far.long;
        each = λ l hl.
            rw (← w.1)
            (omega (
              arith,
              so_far.each l hl,
              total_past i w.0 (through l) x (λ c g b. none c g (let e = w.1 in omega arith)),
            ));
      }

module _ (rule : ℕ → ℕ) (old new : List ℕ) where
  pub marked_none : length old ≡ 64 → Marked 0 rule old old
  marked_none long = record { long = long; before = λ c h. absurd (omega arith); after = λ c g h. refl }

  pub marked_next : (i : ℕ) → i < 64 → Marked i rule old new → (y : ℕ) → y ≡ rule i → Marked (i + 1) rule old (set new i y)
  marked_next i low so_far y e =
      record {
        long = length-set new i y ∙ so_far.long;
        before = λ c h. before c h (eq_or_not c i);
        after = λ c g h.
            let other : c ≡ i → ⊥ = λ q. omega arith in
            get_or-set_other new i c y 0 other ∙ so_far.after c (omega arith) h;
      }
    where
      before : (c : ℕ) → c < i + 1 → (c ≡ i) ⊎ (c ≡ i → ⊥) → cells (set new i y) c ≡ rule c
      before c h (inl q) = rw q (get_or-set_same new i y 0 (rw so_far.long low) ∙ e)
      before c h (inr n) = get_or-set_other new i c y 0 n ∙ so_far.before c (omega arith)

  pub marked_past : (i j : ℕ) → i ≤ j → j ≤ 64 → ((c : ℕ) → i ≤ c → c < j → rule c ≡ cells old c) → Marked i rule old new
      → Marked j rule old new
  marked_past i j h top same so_far =
      record {
        long = so_far.long;
        before = λ c b. before c b (le_or_lt i c);
        after = λ c g b. so_far.after c (omega arith) b;
      }
    where
      before : (c : ℕ) → c < j → (i ≤ c) ⊎ (c < i) → cells new c ≡ rule c
      before c b (inl g) = so_far.after c g (omega arith) ∙ sym (same c g b)
      before c b (inr l) = so_far.before c l

  pub marked_all : Marked 64 rule old new → new ≡ list 64 rule
  marked_all done =
      ext_get_or 0 new (list 64 rule) (done.long ∙ sym (length-list 64 rule))
      (λ c h. let low : c < 64 = rw done.long at h in done.before c low ∙ sym (cells-list 64 rule c low))

-- All three tables at once.
pub swept_none : (cards : Bool) (stage x weight : ℕ → ℕ) (t : Tables) → length t.stages ≡ 64 → length t.left ≡ 20
    → length t.parts ≡ 20 → Swept cards 0 stage x weight t t
swept_none cards stage x weight t long_s long_l long_p =
    record {
      marked = marked_none stage t.stages t.stages long_s;
      taken = taken_none cards x t.left t.left long_l;
      freed = taken_none cards weight t.parts t.parts long_p;
    }

module _ (cards : Bool) (stage x weight : ℕ → ℕ) (old new : Tables) where
  pub swept_next : {next : Tables} (i : ℕ) → i < 64 → Swept cards i stage x weight old new
      → Halted cards i (stage i) (x i) (weight i) new next → Swept cards (i + 1) stage x weight old next
  swept_next i low so_far step =
      record {
        marked = rw step.marked (marked_next stage old.stages new.stages i low so_far.marked (stage i) refl);
        taken = taken_next cards x old.left new.left i so_far.taken _ step.taken;
        freed = taken_next cards weight old.parts new.parts i so_far.freed _ step.freed;
      }

  -- cells that keep their stage and are given nothing
  pub swept_past : (i j : ℕ) → i ≤ j → j ≤ 64
      → ((c : ℕ) → i ≤ c → c < j → (stage c ≡ cells old.stages c) × (x c ≡ 0) × (weight c ≡ 0))
      → Swept cards i stage x weight old new → Swept cards j stage x weight old new
  swept_past i j h top same so_far =
      record {
        marked = marked_past stage old.stages new.stages i j h top (λ c g l. (same c g l).0) so_far.marked;
        taken = taken_past cards x old.left new.left i j h (λ c g l. (same c g l).1) so_far.taken;
        freed = taken_past cards weight old.parts new.parts i j h (λ c g l. (same c g l).2) so_far.freed;
      }

-- The first i entries of a list have been multiplied by k.
pub record Multiplied (i k : ℕ) (old new : List ℕ) : Type 0 where
  pub long : length new ≡ length old
  pub each : (l : ℕ) → l < i → cells new l ≡ cells old l * k
  pub rest : (l : ℕ) → i ≤ l → cells new l ≡ cells old l

-- One more entry of a table of the limits is multiplied, and what has room once all are.
-- Stands because docs/PORT-NAMES.md names these; no function cites them today.
pub scaled_none : (k : ℕ) (t : List ℕ) → length t ≡ 20 → Scaled 0 k t t
scaled_none k t long = record { long = long; each = λ l h. absurd (omega arith); rest = λ l h. refl }

pub scaled_next : (i k : ℕ) (old new : List ℕ) → i < 20 → Scaled i k old new → Scaled (i + 1) k old (set new i (cells new i * k))
scaled_next i k old new low so_far =
    record {
      long = length-set new i (cells new i * k) ∙ so_far.long;
      each = λ l h. go l h (eq_or_not l i);
      rest = λ l h.
          let other : l ≡ i → ⊥ = λ e. omega arith in
          get_or-set_other new i l (cells new i * k) 0 other ∙ so_far.rest l (omega arith);
    }
  where
    go : (l : ℕ) → l < i + 1 → (l ≡ i) ⊎ (l ≡ i → ⊥) → cells (set new i (cells new i * k)) l ≡ cells old l * k
    go l h (inl e) =
        rw e (get_or-set_same new i (cells new i * k) 0 (rw so_far.long low) ∙ ap (λ x. x * k) (so_far.rest i (omega arith)))
    go l h (inr n) = get_or-set_other new i l (cells new i * k) 0 n ∙ so_far.each l (omega arith)

pub roomy_grown : (cards : Bool) (k : ℕ) (x : ℕ → ℕ) (old new : List ℕ) → RoomyBy cards k x old → Scaled (limits_of cards) k old new
    → Roomy cards x new
roomy_grown cards k x old new room grown =
    record { long = grown.long; each = λ l h. rw (grown.each l h) (room.each l h) }
