-- What is wrong where, of a plan file's bytes: rows 1 to 15 of document 01's table 'Refusal numbers', said without any search.
-- A refusal's number and place have to name such a fault.
use Rattle.std.specs.Prelude.{ℕ, ◌+◌, ◌*◌, ◌≤◌, ◌<◌, ◌≡◌, List, length}
use Rattle.words.specs.Check.{check, start_of, word_in}
use Rattle.judging.specs.Fault.{PlanFault}
use Rattle.formats.specs.RequestFile.{request_in}
use Rattle.formats.specs.PlanFile.{base_in, plan_in}

-- The faults of a request with a plan have the file's words for places, so they stand in a file where they stand in the pair.
pub data PlanFileFault (file : List ℕ) : ℕ → ℕ → Type 0 where
  size : (length file ≡ 1536 → ⊥) → PlanFileFault file 1 0
  unsealed : (b : ℕ) → b < 3 → (word_in file b 127 ≡ check (start_of b) (word_in file b) → ⊥) → PlanFileFault file 2 (128 * b + 127)
  kind : (b : ℕ) → b < 3 → (word_in file b 0 ≡ 1 + b → ⊥) → PlanFileFault file 3 (128 * b)
  of_pair : {k q : ℕ} → PlanFault (request_in file) (plan_in file) k q → PlanFileFault file k q
  request_spare : (i : ℕ) → 83 ≤ i → i ≤ 126 → 0 < word_in file 0 i → PlanFileFault file 7 i
  plan_spare : (half i : ℕ) → half < 2 → 75 ≤ i → i ≤ 126 → 0 < word_in file (1 + half) i → PlanFileFault file 7 (128 * (1 + half) + i)
  base_differs : (base_in file 1 ≡ base_in file 0 → ⊥) → PlanFileFault file 9 257
