-- The order in which a program asks the rows of a plan file says what the rows say; and the length of an accepted file.
use Prim.Native.Nat.{ℕ}
use mathlib.Core.List.{List, [], ◌∷◌, ◌++◌}
use mathlib.Core.Path.{◌≡◌, refl, sym, ◌∙◌, ap, ap₂}
use native.Mathlib.Omega.{arith}
use lib.ListN.{length}
use borrow.Author.Tests.{eqb-true, not-false}
use Rattle.switch.specs.RequestRows.{ports_row, capacity_row, demand_row, not_zero_row, request_verdict}
use Rattle.switch.specs.Rows.{Row, joined, row_verdict, or_else, verdict_of}
use Rattle.switch.specs.Within.{Within}
use Rattle.switch.specs.declared.plan.Plan.{Plan}
use Rattle.switch.specs.declared.request.Request.{Request}
use Rattle.switch.specs.declared.verdict.Refusal.{Refusal}
use Rattle.switch.specs.declared.verdict.Verdict.{Verdict}
use Rattle.switch.specs.declared.verdict.Verdict.TheVariants.{Accepted, Refused}
use Rattle.switch.proofs.Rows.{or_else_assoc, accepts_both, verdict_append, joined_verdict, verdict_joined, silent_here, accepted_exactly}
use Rattle.switch.proofs.Within.{within_of_accepted}
use Rattle.judging.specs.PlanWithin.{PlanWithin}
use Rattle.judging.specs.PlanRows.{half_not_zero, base_row, rate_rows}
use Rattle.worked.specs.Worked.{rates_worked}
use Rattle.checker.proofs.Judged.{rates_heard, plan_within_of_accepted}
use Rattle.formats.specs.FileRows.{length_row, check_row, kind_row, spare_row}
use Rattle.formats.specs.RequestFile.{request_in}
use Rattle.formats.specs.PlanFile.{base_in, plan_in, base_differs_row, plan_file_rows, check_verdict}
use Rattle.files.specs.Content.{content}

-- Both parts of a row that accepts do.
parts_accept : (a b : Row) → a.cause ≡ b.cause → row_verdict (joined a b) ≡ Accepted
    → (row_verdict a ≡ Accepted) × (row_verdict b ≡ Accepted)
parts_accept a b same e = accepts_both (row_verdict a) (row_verdict b) (sym (joined_verdict a b same) ∙ e)

-- The rows that are asked of a file before it is read.
abbrev frame : List ℕ → List Row
frame file = length_row 1536 file ∷ check_row 3 file ∷ kind_row (1 ∷ 2 ∷ 3 ∷ []) file ∷ []

-- What a program asks of a file, and of a request and a plan that it has read there.
module _ (file : List ℕ) (r : Request) (p : Plan) where
  -- Row 7, from a half's cells on and from the request's spare words on.
  abbrev second_zeros : Row
  second_zeros = joined (half_not_zero r p 1) (spare_row 2 75 52 file)

  abbrev first_zeros : Row
  first_zeros = joined (half_not_zero r p 0) (joined (spare_row 1 75 52 file) second_zeros)

  abbrev zeros : Row
  zeros = joined (spare_row 0 83 44 file) first_zeros

  -- The rows that are asked together.
  abbrev numbers : List Row
  numbers = ports_row r ∷ capacity_row r ∷ demand_row r ∷ joined (not_zero_row r) zeros ∷ []

  abbrev bases : List Row
  bases = base_row p.base ∷ base_differs_row file ∷ []

  numbers_in_order : verdict_of numbers ≡ or_else (request_verdict r) (row_verdict zeros)
  numbers_in_order = verdict_joined (not_zero_row r) zeros (ports_row r ∷ capacity_row r ∷ demand_row r ∷ []) refl

  abbrev format : Verdict
  format = or_else (verdict_of (frame file)) (or_else (or_else (request_verdict r) (row_verdict zeros)) (verdict_of bases))

  format_in_order : format ≡ verdict_of (frame file ++ (numbers ++ bases))
  format_in_order =
      ap (or_else (verdict_of (frame file)))
      (ap (λ (v : Verdict). or_else v (verdict_of bases)) (sym numbers_in_order) ∙ sym (verdict_append numbers bases))
      ∙ sym (verdict_append (frame file) (numbers ++ bases))

  within : format ≡ Accepted → Within r × PlanWithin r p
  unfolding verdict_of
  within e =
      let (asked, based) = accepts_both (or_else (request_verdict r) (row_verdict zeros)) _ (accepts_both (verdict_of (frame file)) _ e).1 in
      let (own, none) = accepts_both (request_verdict r) (row_verdict zeros) asked in
      let (first, more) =
      parts_accept (half_not_zero r p 0) (joined (spare_row 1 75 52 file) second_zeros) refl
      (parts_accept (spare_row 0 83 44 file) first_zeros refl none).1 in
      let second =
      (parts_accept (half_not_zero r p 1) (spare_row 2 75 52 file) refl (parts_accept (spare_row 1 75 52 file) second_zeros refl more).1).0 in
      let base = (accepts_both (row_verdict (base_row p.base)) _ based).0 in
      (within_of_accepted r own, plan_within_of_accepted r p first second base)

  asked_in_order : verdict_of ((frame file ++ (numbers ++ bases)) ++ rate_rows r p)
      ≡ or_else (verdict_of (frame file))
      (or_else (request_verdict r) (or_else (row_verdict zeros) (or_else (verdict_of bases) (rates_worked r p))))
  asked_in_order =
      verdict_append (frame file ++ (numbers ++ bases)) (rate_rows r p)
      ∙ ap (λ (v : Verdict). or_else v (verdict_of (rate_rows r p))) (sym format_in_order)
      ∙ sym (rates_heard format r p within)
      ∙ rw (
        or_else_assoc (verdict_of (frame file)) (or_else (or_else (request_verdict r) (row_verdict zeros)) (verdict_of bases)) (rates_worked r p),
        or_else_assoc (or_else (request_verdict r) (row_verdict zeros)) (verdict_of bases) (rates_worked r p),
        or_else_assoc (request_verdict r) (row_verdict zeros) (or_else (verdict_of bases) (rates_worked r p)),
      )

pub checked_as_asked : (file : List ℕ)
    → check_verdict file ≡ or_else (verdict_of (frame file)) (content file (request_in file) (plan_in file))
checked_as_asked file = asked_in_order file (request_in file) (plan_in file)

-- What the frame refuses is refused, and after it the contents decide.
pub frame_refuses : (file : List ℕ) {v : Verdict} {x : Refusal} → v ≡ verdict_of (frame file) → v ≡ Refused x → Refused x ≡ check_verdict file
frame_refuses file e refused = sym (checked_as_asked file ∙ ap (λ (v : Verdict). or_else v (content file (request_in file) (plan_in file))) (sym e ∙ refused))

pub content_decides : (file : List ℕ) {v w : Verdict} {r : Request} {p : Plan} → v ≡ verdict_of (frame file) → v ≡ Accepted
    → r ≡ request_in file → p ≡ plan_in file → w ≡ content file r p → w ≡ check_verdict file
content_decides file e accepted request plan asked =
    asked ∙ ap₂ (content file) request plan
    ∙ sym (checked_as_asked file ∙ ap (λ (v : Verdict). or_else v (content file (request_in file) (plan_in file))) (sym e ∙ accepted))

pub length_of_accepted : (file : List ℕ) → check_verdict file ≡ Accepted → length file ≡ 1536
length_of_accepted file e =
    eqb-true (length file) 1536 (not-false _ (silent_here ((accepted_exactly (plan_file_rows file)).0 e) 0 (omega arith)))
