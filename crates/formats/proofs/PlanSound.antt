-- What the rows ask of a plan file, without the rows, and what follows of a file that is well-formed.
use Prim.Native.Nat.{ℕ, zero, suc, ◌+◌, ◌<◌}
use mathlib.Core.Bool.{not}
use mathlib.Core.List.{List, [], ◌∷◌}
use mathlib.Core.Path.{◌≡◌, refl, ap}
use native.Mathlib.Omega.{arith}
use lib.ListN.{length}
use borrow.Author.Tests.{eq-eqb, eqb-true, not-false}
use Rattle.switch.specs.Given.{Silent, AllSilent}
use Rattle.switch.specs.RequestRows.{not_zero_row}
use Rattle.switch.specs.Rows.{Row, joined, row_verdict, verdict_of}
use Rattle.switch.specs.Within.{Within}
use Rattle.switch.specs.declared.verdict.Verdict.TheVariants.{Accepted}
use Rattle.switch.proofs.Rows.{silent_nil, silent_cons, silent_here, silent_after, silent_first, silent_second, accepted_exactly}
use Rattle.switch.proofs.Rows.{or_else_accepted, joined_verdict, row_accepted_exactly}
use Rattle.switch.proofs.Within.{within_of_silent}
use Rattle.judging.specs.PlanRows.{half_not_zero, pair_not_zero_row, judged}
use Rattle.judging.specs.PlanWithin.{PlanWithin}
use Rattle.judging.proofs.Accepted.{plan_within_of_silent}
use Rattle.formats.specs.FileRows.{length_row, check_row, kind_row, spare_row}
use Rattle.formats.specs.PlanFile.{base_in, plan_in, plan_file_not_zero_row, base_differs_row, format_rows, check_verdict, WellFormed}
use Rattle.formats.specs.RequestFile.{request_in}

-- The spare words of a file are 0.
pub record Spared (file : List ℕ) : Type 0 where
  pub request : Silent (spare_row 0 83 44 file)
  pub half : (half : ℕ) → half < 2 → Silent (spare_row (1 + half) 75 52 file)

-- A half is the first or the second.
pub by_halves : (Q : ℕ → Type 0) → Q 0 → Q 1 → (half : ℕ) → half < 2 → Q half
by_halves Q first second zero h = first
by_halves Q first second (suc zero) h = second
by_halves Q first second (suc (suc half)) h = absurd (omega arith)

-- What is well-formed, without the rows.
pub record PlanSound (file : List ℕ) : Type 0 where
  pub size : length file ≡ 1536
  pub passes : Silent (check_row 3 file)
  pub kinds : Silent (kind_row (1 ∷ 2 ∷ 3 ∷ []) file)
  pub within : Within (request_in file)
  pub plan_within : PlanWithin (request_in file) (plan_in file)
  pub spared : Spared file
  pub same_base : base_in file 1 ≡ base_in file 0

module _ (file : List ℕ) where
  -- The parts of row 7, from the last on.
  abbrev half_row : ℕ → Row
  half_row = half_not_zero (request_in file) (plan_in file)

  abbrev from_second : Row
  from_second = joined (half_row 1) (spare_row 2 75 52 file)

  abbrev after_first : Row
  after_first = joined (spare_row 1 75 52 file) from_second

  abbrev from_first : Row
  from_first = joined (half_row 0) after_first

  abbrev after_request : Row
  after_request = joined (spare_row 0 83 44 file) from_first

  sound_of_silent : AllSilent (format_rows file) → PlanSound file
  sound_of_silent all =
      let checks = silent_after all in
      let kinds = silent_after checks in
      let ports = silent_after kinds in
      let capacities = silent_after ports in
      let demands = silent_after capacities in
      let zeros = silent_after demands in
      let bases = silent_after zeros in
      let differ = silent_here (silent_after bases) in
      let nz = not_zero_row (request_in file) in
      let spare = silent_second nz after_request (silent_here zeros) in
      let first = silent_second (spare_row 0 83 44 file) from_first spare in
      let after = silent_second (half_row 0) after_first first in
      let second = silent_second (spare_row 1 75 52 file) from_second after in
      record {
        size = eqb-true (length file) 1536 (not-false _ (silent_here all 0 (omega arith)));
        passes = silent_here checks;
        kinds = silent_here kinds;
        within =
            within_of_silent (request_in file)
            (silent_cons (silent_here ports) (silent_cons (silent_here capacities) (silent_cons (silent_here demands)
            (silent_cons (silent_first nz after_request (silent_here zeros)) silent_nil))));
        plan_within =
            plan_within_of_silent (request_in file) (plan_in file) (silent_first (half_row 0) after_first first)
            (silent_first (half_row 1) (spare_row 2 75 52 file) second) (silent_here bases);
        spared =
            record {
              request = silent_first (spare_row 0 83 44 file) from_first spare;
              half =
                  by_halves (λ half. Silent (spare_row (1 + half) 75 52 file)) (silent_first (spare_row 1 75 52 file) from_second after)
                  (silent_second (half_row 1) (spare_row 2 75 52 file) second);
            };
        same_base = eqb-true (base_in file 1) (base_in file 0) (not-false _ (differ 0 (omega arith)));
      }

  pub sound_of_well_formed : WellFormed file → PlanSound file
  sound_of_well_formed e = sound_of_silent ((accepted_exactly (format_rows file)).0 e)

  -- A file that is framed as it should be, and whose spare words are 0, is judged as what it holds.
  silence : (row : Row) → Silent row → row_verdict row ≡ Accepted
  silence row s = (row_accepted_exactly row).1 s

  not_zero_as_pair : Spared file → row_verdict (plan_file_not_zero_row file) ≡ row_verdict (pair_not_zero_row (request_in file) (plan_in file))
  not_zero_as_pair spared =
      rw (
        joined_verdict (not_zero_row (request_in file)) after_request refl,
        joined_verdict (spare_row 0 83 44 file) from_first refl,
        joined_verdict (half_row 0) after_first refl,
        joined_verdict (spare_row 1 75 52 file) from_second refl,
        joined_verdict (half_row 1) (spare_row 2 75 52 file) refl,
        joined_verdict (not_zero_row (request_in file)) (joined (half_row 0) (half_row 1)) refl,
        joined_verdict (half_row 0) (half_row 1) refl,
        silence (spare_row 0 83 44 file) spared.request,
        silence (spare_row 1 75 52 file) (spared.half 0 (omega arith)),
        silence (spare_row 2 75 52 file) (spared.half 1 (omega arith)),
        or_else_accepted (row_verdict (half_row 1)),
      )

  pub check_as_judged : length file ≡ 1536 → Silent (check_row 3 file) → Silent (kind_row (1 ∷ 2 ∷ 3 ∷ []) file) → Spared file
      → base_in file 1 ≡ base_in file 0 → check_verdict file ≡ judged (request_in file) (plan_in file)
  unfolding verdict_of
  check_as_judged size passes kinds spared same =
      rw (
        silence (length_row 1536 file) (λ i h. ap not (eq-eqb (length file) 1536 size)),
        silence (check_row 3 file) passes,
        silence (kind_row (1 ∷ 2 ∷ 3 ∷ []) file) kinds,
        not_zero_as_pair spared,
        silence (base_differs_row file) (λ i h. ap not (eq-eqb (base_in file 1) (base_in file 0) same)),
      )
