-- Every fault of a plan file is noticed by the rows that it meets, so that what is refused is the first fault.
use Prim.Native.Nat.{ℕ, zero, suc, ◌+◌, ◌<◌}
use mathlib.Core.Bool.{not}
use mathlib.Core.List.{List, [], ◌∷◌}
use mathlib.Core.Path.{◌≡◌, refl, ◌∙◌, ap}
use native.Mathlib.Nat.{zero-add}
use native.Mathlib.Omega.{arith}
use lib.ListN.{length}
use borrow.Author.Tests.{ne_eqb}
use Rattle.words.specs.Check.{word_in}
use Rattle.switch.specs.Given.{Gives, NoLater}
use Rattle.switch.specs.RequestRows.{ports_row, capacity_row, demand_row, not_zero_row}
use Rattle.switch.specs.Rows.{Row, joined}
use Rattle.switch.specs.declared.plan.Plan.{Plan}
use Rattle.switch.specs.declared.request.Request.{Request}
use Rattle.switch.specs.declared.verdict.Verdict.TheVariants.{Accepted}
use Rattle.switch.proofs.First.{ascending, Onward, Noticed, first_of_noticed, none_of_noticed}
use Rattle.switch.proofs.Noticed.{request_among, limits_rising, zeros_rising}
use Rattle.switch.proofs.Rising.{Rising, rising_joined}
use Rattle.switch.proofs.Rows.{Each, each_cons, each_here, each_after, each_after_three, Named, named_first, named_second}
use Rattle.judging.specs.PlanRows.{half_not_zero, base_row, rate_rows}
use Rattle.judging.proofs.JudgeFirst.{half_rising}
use Rattle.judging.proofs.Noticed.{plan_noticed, base_rising, range_rising, fair_rising}
use Rattle.formats.specs.FileRows.{spare_row}
use Rattle.formats.specs.PlanFault.{PlanFileFault, size, unsealed, kind, of_pair, request_spare, plan_spare, base_differs}
use Rattle.formats.specs.PlanFile.{base_in, plan_in, plan_file_not_zero_row, base_differs_row, plan_file_rows, check_verdict}
use Rattle.formats.specs.RequestFile.{request_in}
use Rattle.formats.proofs.Noticed.{rising_alone, frame_rising, spare_rising, spare_noticed}
use Rattle.formats.proofs.PlanFault.{kind_of_lem}

module _ (file : List ℕ) where
  abbrev r : Request
  r = request_in file

  abbrev p : Plan
  p = plan_in file

  -- Row 7 from each of its parts on.
  abbrev from_second : Row
  from_second = joined (half_not_zero r p 1) (spare_row 2 75 52 file)

  abbrev from_spare : Row
  from_spare = joined (spare_row 1 75 52 file) from_second

  abbrev from_first : Row
  from_first = joined (half_not_zero r p 0) from_spare

  abbrev from_words : Row
  from_words = joined (spare_row 0 83 44 file) from_first

  -- The rows after it.
  abbrev after_zeros : List Row
  after_zeros = base_row p.base ∷ base_differs_row file ∷ rate_rows r p

  -- What holds of the offenders of the file's rows, and of all that comes no earlier, holds of its faults.
  module _ (Q : ℕ → ℕ → Type 0) (on : Onward Q) (all : Each (Named Q) (plan_file_rows file)) where
    limits : Each (Named Q) (ports_row r ∷ capacity_row r ∷ demand_row r ∷ plan_file_not_zero_row file ∷ after_zeros)
    limits = each_after_three _ all

    later : Each (Named Q) (plan_file_not_zero_row file ∷ after_zeros)
    later = each_after_three _ limits

    bases : Each (Named Q) after_zeros
    bases = each_after _ later

    words : Named Q from_words
    words = named_second (not_zero_row r) from_words Q refl (each_here _ later)

    first : Named Q from_first
    first = named_second (spare_row 0 83 44 file) from_first Q refl words

    middle : Named Q from_spare
    middle = named_second (half_not_zero r p 0) from_spare Q refl first

    second : Named Q from_second
    second = named_second (spare_row 1 75 52 file) from_second Q refl middle

    spares : (half : ℕ) → half < 2 → Named Q (spare_row (1 + half) 75 52 file)
    spares zero h = named_first (spare_row 1 75 52 file) from_second Q middle
    spares (suc zero) h = named_second (half_not_zero r p 1) (spare_row 2 75 52 file) Q refl second
    spares (suc (suc half)) h = absurd (omega arith)

    file_noticed : {k q : ℕ} → PlanFileFault file k q → Q k q
    file_noticed (size n) = each_here _ all 0 (omega arith) (ap not (ne_eqb (length file) 1536 n))
    file_noticed (unsealed b h n) = each_here _ (each_after _ all) b h (ap not (ne_eqb (word_in file b 127) _ n))
    file_noticed (kind b h n) =
        each_here _ (each_after _ (each_after _ all)) b h
        (ap not (ne_eqb (word_in file b 0) _ (λ e. n (e ∙ kind_of_lem b h))))
    file_noticed (of_pair f) =
        plan_noticed r p Q on (request_among r (Named Q) limits (named_first (not_zero_row r) from_words Q (each_here _ later)))
        (named_first (half_not_zero r p 0) from_spare Q first) (named_first (half_not_zero r p 1) (spare_row 2 75 52 file) Q second)
        (each_here _ bases) (each_after _ (each_after _ bases)) f
    file_noticed (request_spare i l h more) =
        rw zero-add
        at (spare_noticed file Q 0 83 44 (named_first (spare_row 0 83 44 file) from_first Q words) i l (omega arith) more)
    file_noticed (plan_spare half i b l h more) = spare_noticed file Q (1 + half) 75 52 (spares half b) i l (omega arith) more
    file_noticed (base_differs n) =
        each_here _ (each_after _ bases) 0 (omega arith) (ap not (ne_eqb (base_in file 1) (base_in file 0) n))

  check_noticed : Noticed (plan_file_rows file) (PlanFileFault file)
  check_noticed Q on all k q = file_noticed Q on all

  zeros_in_order : Rising 0 383 (plan_file_not_zero_row file)
  zeros_in_order =
      rising_joined (not_zero_row r) from_words 83 (zeros_rising r (omega arith))
      (rising_joined (spare_row 0 83 44 file) from_first 127 (spare_rising file 0 83 44 (omega arith) (omega arith))
      (rising_joined (half_not_zero r p 0) from_spare 203 (half_rising r p 0 (omega arith) (omega arith))
      (rising_joined (spare_row 1 75 52 file) from_second 255 (spare_rising file 1 75 52 (omega arith) (omega arith))
      (rising_joined (half_not_zero r p 1) (spare_row 2 75 52 file) 331 (half_rising r p 1 (omega arith) (omega arith))
      (spare_rising file 2 75 52 (omega arith) (omega arith))))))

  pub check_rising : Each (Rising 0 383) (plan_file_rows file)
  check_rising =
      frame_rising file 1536 3 (1 ∷ 2 ∷ 3 ∷ []) (omega arith) (omega arith)
      (limits_rising r (omega arith)
      (each_cons _ zeros_in_order
      (each_cons _ (base_rising r p)
      (each_cons _ (rising_alone (base_differs_row file) 257 (λ i. refl) (omega arith))
      (each_cons _ (range_rising r p) (fair_rising r p))))))

  pub check_first : (k q : ℕ) → Gives (check_verdict file) k q → (k' q' : ℕ) → PlanFileFault file k' q' → NoLater k q k' q'
  unfolding ascending
  check_first = first_of_noticed (plan_file_rows file) (PlanFileFault file) check_noticed refl check_rising

  pub check_none : check_verdict file ≡ Accepted → (k q : ℕ) → PlanFileFault file k q → ⊥
  check_none = none_of_noticed (plan_file_rows file) (PlanFileFault file) check_noticed
