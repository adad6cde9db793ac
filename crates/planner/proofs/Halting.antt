-- The walk over the cells of a limit that fills: it visits those cells, and nothing is done to any other.
use Prim.Native.Nat.{ℕ, ◌+◌, ◌≤◌, ◌<◌}
use mathlib.Core.Path.{◌≡◌, refl}
use mathlib.Core.Bool.{Bool, false}
use mathlib.Core.List.{List}
use mathlib.Core.Logic.{◌⊎◌, inl, inr}
use native.Mathlib.Omega.{arith}
use lib.ListN.{length}
use Rattle.laws.specs.Lists.{cells}
use Rattle.laws.proofs.Search.{le_or_lt}
use Rattle.planner.specs.Limits.{through}
use Rattle.planner.specs.Areas.{first_of, end_of, step_of}
use Rattle.planner.specs.Tables.{Halted, Swept}
use Rattle.planner.specs.Engine.{halt_rate, halt_weight, halt_stage}
use Rattle.planner.specs.declared.tables.Tables.{Tables}
use Rattle.planner.proofs.Areas.{OnLine, Walk}
use Rattle.planner.proofs.Walks.{swept_none, swept_next, swept_past}

module _ (cards : Bool) (weights : List ℕ) (limit high : ℕ) (t : Tables) where
  abbrev pub SweptTo : ℕ → Tables → Type 0
  SweptTo i new =
      Swept cards i (halt_stage limit t.stages) (halt_rate limit high weights t.stages) (halt_weight limit weights t.stages) t new

  -- The walk has come to a cell of the limit, or to its end.
  abbrev pub Walked : ℕ → Tables → Type 0
  Walked cell new =
      ((cell < end_of limit) × OnLine limit cell × SweptTo cell new) ⊎ ((end_of limit ≤ cell) × SweptTo 64 new)

  -- Before the end the walk is at a cell of the limit.
  pub walk_here : {cell : ℕ} {new : Tables} → cell < end_of limit → Walked cell new → OnLine limit cell × SweptTo cell new
  walk_here h (inl (l, on, swept)) = (on, swept)
  walk_here h (inr (l, swept)) = absurd (omega arith)

  -- And at its end all cells are done.
  pub walk_done : {cell : ℕ} {new : Tables} → end_of limit ≤ cell → Walked cell new → SweptTo 64 new
  walk_done h (inl (l, on, swept)) = absurd (omega arith)
  walk_done h (inr (l, swept)) = swept

  module _ (walk : Walk limit) where
    untouched : (c : ℕ) → through limit c ≡ false
        → (halt_stage limit t.stages c ≡ cells t.stages c) × (halt_rate limit high weights t.stages c ≡ 0)
        × (halt_weight limit weights t.stages c ≡ 0)
    untouched c e = rw e (refl, refl, refl)

    -- on from i, past cells that are not the limit's
    on_to : (i j : ℕ) (new : Tables) → i ≤ j → j ≤ 64 → ((c : ℕ) → i ≤ c → c < j → through limit c ≡ false) → SweptTo i new
        → SweptTo j new
    on_to i j new h top none = swept_past cards _ _ _ t new i j h top (λ c g l. untouched c (none c g l))

    -- at a cell of the walk, or past its end
    arrived : (cell : ℕ) (new : Tables) → OnLine limit cell → (i : ℕ) → i ≤ cell → i ≤ 64
        → ((c : ℕ) → i ≤ c → c < cell → through limit c ≡ false) → SweptTo i new → Walked cell new
    arrived cell new on i low top none so_far = go (le_or_lt (end_of limit) cell)
      where
        go : (end_of limit ≤ cell) ⊎ (cell < end_of limit) → Walked cell new
        go (inr l) = inl (l, on, on_to i cell new low (omega (arith, walk.end_low)) none so_far)
        go (inl l) =
            inr (
              l,
              on_to i 64 new top (omega arith)
                  (λ c g b. elim (le_or_lt cell c) [
                    | inl at ↦ walk.beyond c (omega arith) b
                    | inr before ↦ none c g before
                  ])
                  so_far,
            )

    pub walk_starts : length t.stages ≡ 64 → length t.left ≡ 20 → length t.parts ≡ 20 → Walked (first_of limit) t
    walk_starts long_s long_l long_p =
        arrived (first_of limit) t walk.first_on 0 (omega arith) (omega arith) (λ c g b. walk.before c b)
        (swept_none cards _ _ _ t long_s long_l long_p)

    pub walk_goes_on : (cell : ℕ) (new : Tables) → cell < end_of limit → OnLine limit cell → SweptTo cell new → (next : Tables)
        → Halted cards cell (halt_stage limit t.stages cell) (halt_rate limit high weights t.stages cell)
        (halt_weight limit weights t.stages cell) new next
        → Walked (cell + step_of limit) next
    walk_goes_on cell new low on so_far next step =
        let top = walk.end_low in
        let up = walk.step_up in
        arrived (cell + step_of limit) next (walk.next_on cell on) (cell + 1) (omega arith) (omega arith)
        (λ c g b. walk.between cell on c (omega arith) b)
        (swept_next cards _ _ _ t new cell (omega arith) so_far step)
