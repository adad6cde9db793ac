-- The number and the place of a plan file's refusal name a fault that is there.
use Prim.Native.Nat.{ℕ, zero, suc, ◌+◌, ◌<◌}
use mathlib.Core.Bool.{not}
use mathlib.Core.List.{List, [], ◌∷◌}
use mathlib.Core.Path.{◌≡◌, refl, sym, ◌∙◌, ap}
use native.Mathlib.Nat.{zero-add}
use native.Mathlib.Omega.{arith}
use lib.ListN.{length, get_or}
use borrow.Author.Tests.{ltb-true, eq-eqb}
use Rattle.laws.proofs.Search.{true_not_false}
use Rattle.words.specs.Check.{word_in}
use Rattle.switch.specs.Fault.{Fault}
use Rattle.switch.specs.Given.{Gives}
use Rattle.switch.specs.RequestRows.{ports_row, capacity_row, demand_row, not_zero_row}
use Rattle.switch.specs.Rows.{Row, joined}
use Rattle.switch.proofs.Fault.{ports_named, capacities_named, demands_named, zeros_named}
use Rattle.switch.proofs.Rows.{each_nil, each_cons, Named, named_joined, gives_named}
use Rattle.judging.specs.Fault.{PlanFault, of_request}
use Rattle.judging.specs.PlanRows.{half_not_zero, base_row, reason_range_row, above_demand_row, input_over_row, output_over_row, no_bottleneck_row, wrong_reason_row}
use Rattle.judging.proofs.Fault.{half_named, base_named, range_named, above_named, input_over_named, output_over_named, free_named, wrong_named}
use Rattle.formats.specs.FileRows.{length_row, check_row, kind_row, spare_row}
use Rattle.formats.specs.PlanFault.{PlanFileFault, size, unsealed, kind, of_pair, request_spare, plan_spare, base_differs}
use Rattle.formats.specs.PlanFile.{base_in, plan_in, plan_file_not_zero_row, base_differs_row, plan_file_rows, check_verdict}
use Rattle.formats.specs.RequestFile.{request_in}
use Rattle.formats.proofs.Fault.{one_named}

-- The kind of block b is 1 + b.
pub kind_of_lem : (b : ℕ) → b < 3 → get_or (1 ∷ 2 ∷ 3 ∷ []) b 0 ≡ 1 + b
kind_of_lem zero h = refl
kind_of_lem (suc zero) h = refl
kind_of_lem (suc (suc zero)) h = refl
kind_of_lem (suc (suc (suc b))) h = absurd (omega arith)

module _ (file : List ℕ) where
  length_named : Named (PlanFileFault file) (length_row 1536 file)
  length_named =
      one_named (PlanFileFault file) (length_row 1536 file) refl
      (λ e. size (λ s. true_not_false e (ap not (eq-eqb (length file) 1536 s))))

  check_named : Named (PlanFileFault file) (check_row 3 file)
  check_named b h e = unsealed b h (λ s. true_not_false e (ap not (eq-eqb (word_in file b 127) _ s)))

  kind_named : Named (PlanFileFault file) (kind_row (1 ∷ 2 ∷ 3 ∷ []) file)
  kind_named b h e = kind b h (λ s. true_not_false e (ap not (eq-eqb (word_in file b 0) _ (s ∙ sym (kind_of_lem b h)))))

  in_pair : (row : Row) → Named (PlanFault (request_in file) (plan_in file)) row → Named (PlanFileFault file) row
  in_pair row named i h e = of_pair (named i h e)

  in_request : (row : Row) → Named (Fault (request_in file)) row → Named (PlanFileFault file) row
  in_request row named i h e = of_pair (of_request (named i h e))

  request_spare_named : Named (PlanFileFault file) (spare_row 0 83 44 file)
  request_spare_named i h e = rw zero-add (request_spare (83 + i) (omega arith) (omega arith) (ltb-true 0 (word_in file 0 (83 + i)) e))

  plan_spare_named : (half : ℕ) → half < 2 → Named (PlanFileFault file) (spare_row (1 + half) 75 52 file)
  plan_spare_named half l i h e =
      plan_spare half (75 + i) l (omega arith) (omega arith) (ltb-true 0 (word_in file (1 + half) (75 + i)) e)

  zeros_in_file : Named (PlanFileFault file) (plan_file_not_zero_row file)
  zeros_in_file =
      let r = request_in file in
      let p = plan_in file in
      let second = joined (half_not_zero r p 1) (spare_row 2 75 52 file) in
      let after = joined (spare_row 1 75 52 file) second in
      let first = joined (half_not_zero r p 0) after in
      named_joined (not_zero_row r) (joined (spare_row 0 83 44 file) first) (PlanFileFault file) refl (in_request (not_zero_row r) (zeros_named r))
      (named_joined (spare_row 0 83 44 file) first (PlanFileFault file) refl request_spare_named
      (named_joined (half_not_zero r p 0) after (PlanFileFault file) refl (in_pair (half_not_zero r p 0) (half_named r p 0 (omega arith)))
      (named_joined (spare_row 1 75 52 file) second (PlanFileFault file) refl (plan_spare_named 0 (omega arith))
      (named_joined (half_not_zero r p 1) (spare_row 2 75 52 file) (PlanFileFault file) refl
      (in_pair (half_not_zero r p 1) (half_named r p 1 (omega arith))) (plan_spare_named 1 (omega arith))))))

  differs_named : Named (PlanFileFault file) (base_differs_row file)
  differs_named =
      one_named (PlanFileFault file) (base_differs_row file) refl
      (λ e. base_differs (λ s. true_not_false e (ap not (eq-eqb (base_in file 1) (base_in file 0) s))))

  pub check_fault : (k q : ℕ) → Gives (check_verdict file) k q → PlanFileFault file k q
  check_fault =
      let r = request_in file in
      let p = plan_in file in
      gives_named (plan_file_rows file) (PlanFileFault file)
      (each_cons _ length_named (each_cons _ check_named (each_cons _ kind_named
      (each_cons _ (in_request (ports_row r) (ports_named r))
      (each_cons _ (in_request (capacity_row r) (capacities_named r))
      (each_cons _ (in_request (demand_row r) (demands_named r)) (each_cons _ zeros_in_file
      (each_cons _ (in_pair (base_row p.base) (base_named r p)) (each_cons _ differs_named
      (each_cons _ (in_pair (reason_range_row r p) (range_named r p)) (each_cons _ (in_pair (above_demand_row r p) (above_named r p))
      (each_cons _ (in_pair (input_over_row r p) (input_over_named r p)) (each_cons _ (in_pair (output_over_row r p) (output_over_named r p))
      (each_cons _ (in_pair (no_bottleneck_row r p) (free_named r p)) (each_cons _ (in_pair (wrong_reason_row r p) (wrong_named r p)) (each_nil _))))))))))))))))
