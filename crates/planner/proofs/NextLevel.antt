-- The engine's search for the lowest level finds what the filling's finds.
use Prim.Native.Nat.{ℕ, ◌-◌, ◌*◌, ◌<◌}
use mathlib.Core.Path.{◌≡◌, sym, ◌∙◌}
use mathlib.Core.List.{List}
use mathlib.Core.Logic.{◌⊎◌, inl, inr}
use native.Mathlib.Omega.{arith}
use borrow.Author.Tests.{ne_eqb}
use Rattle.laws.specs.Lists.{cells}
use Rattle.laws.proofs.Search.{eq_or_not}
use Rattle.fairness.proofs.Lowest.{lowest_same}
use Rattle.fairness.specs.Problem.{Problem, across}
use Rattle.fairness.specs.Filling.{State, Next, fills, reaches, never, limit_next, flow_next, lowest}
use Rattle.planner.specs.Engine.{waiting_at, state_of, Kept, limit_event}
use Rattle.planner.proofs.State.{fixed_cell, waiting_cell, standing_low}

-- The limits as the kept tables show them.
pub limits_same : (P : Problem) (s : State) (left parts : List ℕ) → Kept P s left parts
    → lowest P.limits (limit_event left parts) never ≡ lowest P.limits (limit_next P s) never
limits_same P s left parts kept =
    lowest_same P.limits (limit_event left parts) (limit_next P s) never
    (λ l hl. inl (λ i. record { high = high l hl i; parts = kept.parts_is l hl i; event = fills l }))
  where
    high : (l : ℕ) → l < P.limits → cells left l ≡ P.capacity l * s.base - across P l (cells s.fixed)
    high l hl = omega (arith, kept.left_is l hl)

module _ (P : Problem) (b : ℕ) (stages levels : List ℕ) where
  abbrev s : State
  s = state_of P b stages levels

  -- The flows as their stages show them.
  abbrev shown : ℕ → Next
  shown c = record { high = P.minimum c * b; parts = waiting_at P stages c; event = reaches c }

  pub flows_same : (first : Next)
      → lowest 64 (λ c. record { high = P.minimum c * b; parts = waiting_at P stages c; event = reaches c }) first
      ≡ lowest 64 (flow_next s) first
  flows_same first = lowest_same 64 shown (flow_next s) first (λ c hc. go c hc (eq_or_not (cells stages c) 22))
    where
      go : (c : ℕ) → c < 64 → (cells stages c ≡ 22) ⊎ (cells stages c ≡ 22 → ⊥)
          → (shown c ≡ flow_next s c) ⊎ (((shown c).parts ≡ 0) × ((flow_next s c).parts ≡ 0))
      go c hc (inl e) =
          let high = sym (fixed_cell P b stages levels c hc ∙ standing_low P b stages levels c (rw e (omega arith))) in
          let parts = sym (waiting_cell P b stages levels c hc) in
          inl (λ i. record { high = high i; parts = parts i; event = reaches c })
      go c hc (inr n) =
          let none : waiting_at P stages c ≡ 0 = rw (ne_eqb (cells stages c) 22 n) in
          inr (none, waiting_cell P b stages levels c hc ∙ none)
