-- Document 01's drawn examples of the checker, P9 to P11: plans that are offered for the triangle.
use Rattle.std.specs.Prelude.{ℕ, List, [], ◌∷◌}
use Rattle.switch.specs.Drawn.{triangle, drawn}
use Rattle.switch.specs.Rows.{refusal}
use Rattle.switch.specs.declared.plan.Plan.{Plan}
use Rattle.switch.specs.declared.request.Request.{Request}
use Rattle.switch.specs.declared.verdict.Cause.TheVariants.{AboveDemand, NoBottleneck}
use Rattle.switch.specs.declared.verdict.Verdict.{Verdict}
use Rattle.switch.specs.declared.verdict.Verdict.TheVariants.{Accepted}

-- A request, a plan that is offered for it, and the verdict that it has to have.
pub record Offered : Type 0 where
  pub request : Request
  pub plan : Plan
  pub verdict : Verdict

-- The reasons of P1.
abbrev pub triangle_reasons : List (List ℕ)
triangle_reasons = (2 ∷ []) ∷ (2 ∷ 2 ∷ []) ∷ (2 ∷ 1 ∷ 1 ∷ []) ∷ (1 ∷ 1 ∷ 1 ∷ 1 ∷ []) ∷ []

-- P9: all numbers of P1's plan doubled.
abbrev pub doubled : Offered
doubled =
    record {
      request = triangle 1;
      plan = drawn 16 ((4 ∷ []) ∷ (4 ∷ 6 ∷ []) ∷ (4 ∷ 6 ∷ 6 ∷ []) ∷ (4 ∷ 4 ∷ 4 ∷ 4 ∷ []) ∷ []) triangle_reasons;
      verdict = Accepted;
    }

-- P10: version two's plan.
abbrev pub version_two : Offered
version_two =
    record {
      request = triangle 1;
      plan = drawn 12 ((3 ∷ []) ∷ (3 ∷ 4 ∷ []) ∷ (3 ∷ 4 ∷ 4 ∷ []) ∷ (3 ∷ 3 ∷ 3 ∷ 3 ∷ []) ∷ []) triangle_reasons;
      verdict = refusal NoBottleneck 9;
    }

-- P11: P1's with rows and columns exchanged.
abbrev pub exchanged : Offered
exchanged =
    record {
      request = triangle 1;
      plan =
          drawn 8 ((2 ∷ 2 ∷ 2 ∷ 2 ∷ []) ∷ (0 ∷ 3 ∷ 3 ∷ 2 ∷ []) ∷ (0 ∷ 0 ∷ 3 ∷ 2 ∷ []) ∷ (0 ∷ 0 ∷ 0 ∷ 2 ∷ []) ∷ [])
          ((2 ∷ 2 ∷ 2 ∷ 1 ∷ []) ∷ (0 ∷ 2 ∷ 1 ∷ 1 ∷ []) ∷ (0 ∷ 0 ∷ 1 ∷ 1 ∷ []) ∷ (0 ∷ 0 ∷ 0 ∷ 1 ∷ []) ∷ []);
      verdict = refusal AboveDemand 1;
    }

-- All of them, as one table.
unfoldable pub offered : List Offered
offered = doubled ∷ version_two ∷ exchanged ∷ []
