-- Document 01's drawn examples of plans, P1 to P8, with a short way to write tables.
use Rattle.std.specs.Prelude.{ℕ, ◌-◌, List, [], ◌∷◌, ◌++◌, replicate, length}
use Rattle.switch.specs.Entitlement.{with_demand}
use Rattle.switch.specs.declared.plan.Plan.{Plan}
use Rattle.switch.specs.declared.request.Request.{Request}

-- A list, followed by zeros up to n numbers.
abbrev pub padded : ℕ → List ℕ → List ℕ
padded n xs = xs ++ replicate (n - length xs) 0

-- A table of 64 cells, given row by row; what is left out is 0.
unfoldable pub rows : List (List ℕ) → List ℕ
rows [] = []
rows (row ∷ rest) = padded 8 row ++ rows rest

abbrev pub table : List (List ℕ) → List ℕ
table given = padded 64 (rows given)

-- A request by its sizes, capacities and rows of demands.
abbrev pub asked : ℕ → ℕ → List ℕ → List ℕ → List (List ℕ) → Request
asked m n inputs outputs demands =
    record { m = m; n = n; inputs = padded 8 inputs; outputs = padded 8 outputs; demands = table demands }

-- A plan by its base and rows of numerators and reasons.
abbrev pub drawn : ℕ → List (List ℕ) → List (List ℕ) → Plan
drawn base numerators reasons = record { base = base; numerators = table numerators; reasons = table reasons }

-- 'The triangle': four ports on a side, every capacity and every demand on or below the diagonal k.
abbrev pub triangle : ℕ → Request
triangle k =
    asked 4 4 (k ∷ k ∷ k ∷ k ∷ []) (k ∷ k ∷ k ∷ k ∷ [])
    ((k ∷ []) ∷ (k ∷ k ∷ []) ∷ (k ∷ k ∷ k ∷ []) ∷ (k ∷ k ∷ k ∷ k ∷ []) ∷ [])

-- One port on each side.
abbrev pub single : ℕ → ℕ → ℕ → Request
single from to demand = asked 1 1 (from ∷ []) (to ∷ []) ((demand ∷ []) ∷ [])

-- A request and the plan that it has to have.
pub record Example : Type 0 where
  pub request : Request
  pub plan : Plan

-- P1: the triangle.
abbrev pub triangle_of_ones : Example
triangle_of_ones =
    record {
      request = triangle 1;
      plan =
          drawn 8 ((2 ∷ []) ∷ (2 ∷ 3 ∷ []) ∷ (2 ∷ 3 ∷ 3 ∷ []) ∷ (2 ∷ 2 ∷ 2 ∷ 2 ∷ []) ∷ [])
          ((2 ∷ []) ∷ (2 ∷ 2 ∷ []) ∷ (2 ∷ 1 ∷ 1 ∷ []) ∷ (1 ∷ 1 ∷ 1 ∷ 1 ∷ []) ∷ []);
    }

-- P2 to P5: one port on a side.
abbrev pub held_by_output : Example
held_by_output =
    record { request = single 2 1 2; plan = drawn 1 ((1 ∷ []) ∷ []) ((2 ∷ []) ∷ []) }

abbrev pub asking_nothing : Example
asking_nothing =
    record { request = single 5 5 0; plan = drawn 1 ((0 ∷ []) ∷ []) ((0 ∷ []) ∷ []) }

abbrev pub no_capacity : Example
no_capacity =
    record { request = single 0 5 3; plan = drawn 1 ((0 ∷ []) ∷ []) ((1 ∷ []) ∷ []) }

abbrev pub asking_all : Example
asking_all =
    record { request = single 5 5 5; plan = drawn 1 ((5 ∷ []) ∷ []) ((0 ∷ []) ∷ []) }

abbrev pub asking_more : Example
asking_more =
    record { request = single 5 5 6; plan = drawn 1 ((5 ∷ []) ∷ []) ((1 ∷ []) ∷ []) }

-- P6: one input's largest capacity among three outputs.
abbrev pub largest_numbers : Example
largest_numbers =
    record {
      request =
          asked 1 3 (16_777_216 ∷ []) (16_777_216 ∷ 16_777_216 ∷ 16_777_216 ∷ [])
          ((16_777_216 ∷ 16_777_216 ∷ 16_777_216 ∷ []) ∷ []);
      plan = drawn 3 ((16_777_216 ∷ 16_777_216 ∷ 16_777_216 ∷ []) ∷ []) ((1 ∷ 1 ∷ 1 ∷ []) ∷ []);
    }

-- P7: the plan of the worked listing.
abbrev pub listed_example : Example
listed_example =
    record {
      request = asked 2 2 (7 ∷ 10 ∷ []) (10 ∷ 10 ∷ []) ((10 ∷ 10 ∷ []) ∷ (2 ∷ 1 ∷ []) ∷ []);
      plan = drawn 2 ((7 ∷ 7 ∷ []) ∷ (4 ∷ 2 ∷ []) ∷ []) ((1 ∷ 1 ∷ []) ∷ (0 ∷ 0 ∷ []) ∷ []);
    }

-- P8: the triangle with every 1 an 8, when cell 9 gets 3; and with the demand of cell 9 lowered to 2.
abbrev pub triangle_of_eights : Example
triangle_of_eights =
    record {
      request = triangle 8;
      plan =
          drawn 1 ((2 ∷ []) ∷ (2 ∷ 3 ∷ []) ∷ (2 ∷ 3 ∷ 3 ∷ []) ∷ (2 ∷ 2 ∷ 2 ∷ 2 ∷ []) ∷ [])
          ((2 ∷ []) ∷ (2 ∷ 2 ∷ []) ∷ (2 ∷ 1 ∷ 1 ∷ []) ∷ (1 ∷ 1 ∷ 1 ∷ 1 ∷ []) ∷ []);
    }

abbrev pub cell_nine_lowered : Example
cell_nine_lowered =
    record {
      request = with_demand (triangle 8) 9 2;
      plan =
          drawn 1 ((2 ∷ []) ∷ (2 ∷ 2 ∷ []) ∷ (2 ∷ 3 ∷ 3 ∷ []) ∷ (2 ∷ 2 ∷ 2 ∷ 2 ∷ []) ∷ [])
          ((2 ∷ []) ∷ (2 ∷ 0 ∷ []) ∷ (2 ∷ 1 ∷ 1 ∷ []) ∷ (1 ∷ 1 ∷ 1 ∷ 1 ∷ []) ∷ []);
    }

-- All of them, as one table.
unfoldable pub drawn_plans : List Example
drawn_plans =
    triangle_of_ones ∷ held_by_output ∷ asking_nothing ∷ no_capacity ∷ asking_all ∷ asking_more ∷ largest_numbers ∷ listed_example ∷ triangle_of_eights ∷ cell_nine_lowered ∷ []
