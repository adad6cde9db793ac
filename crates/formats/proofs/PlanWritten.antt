-- The file of a request with a plan is judged as the pair is; so what is written is accepted, and holds what was planned.
use Prim.Native.Nat.{ℕ, zero, suc, ◌+◌, ◌<◌}
use mathlib.Core.Bool.{Bool, true, false, cond, not}
use mathlib.Core.List.{List, [], ◌∷◌, ◌++◌}
use mathlib.Core.Path.{◌≡◌, sym, ◌∙◌, ap, ap₂, subst}
use native.Mathlib.Nat.{zero-add, mul-le-mul}
use native.Mathlib.Omega.{arith}
use lib.Dec.{ltb}
use borrow.Author.Tests.{eq-eqb, le-ltb}
use Rattle.words.specs.Check.{word_in}
use Rattle.switch.specs.Cells.{input_of, output_of, used_cell}
use Rattle.switch.specs.Given.{Silent}
use Rattle.switch.specs.Planned.{plan_of}
use Rattle.switch.specs.Rates.{rates_of}
use Rattle.switch.specs.Reason.{at_demand, input_holds}
use Rattle.switch.specs.Within.{Within, Shaped}
use Rattle.switch.specs.declared.plan.Plan.{Plan}
use Rattle.switch.specs.declared.request.Request.{Request}
use Rattle.switch.specs.declared.verdict.Verdict.TheVariants.{Accepted}
use Rattle.switch.proofs.Planned.{right_plan_of, base_of_plan_of}
use Rattle.switch.proofs.Sharing.{by_cell}
use Rattle.judging.specs.PlanRows.{numerator_of, judged}
use Rattle.judging.specs.PlanWithin.{PlanShaped}
use Rattle.judging.proofs.Accepted.{at_most_two}
use Rattle.judging.proofs.Shown.{judging_shown}
use Rattle.formats.specs.FileRows.{kind_row}
use Rattle.formats.specs.PlanFile.{HoldsPlan, wide, plan_word, plan_file, plan_block, base_in, plan_in, check_verdict}
use Rattle.formats.specs.PlanShown.{PlanFits}
use Rattle.formats.specs.RequestFile.{request_word, request_in}
use Rattle.formats.proofs.Checking.{words_of_well_formed, well_formed_of_accepted}
use Rattle.formats.proofs.Content.{request_word_below}
use Rattle.formats.proofs.Content as Content
use Rattle.formats.proofs.PlanContent.{length_plan_file, request_in_plan_file, word_of_plan_file, plan_file_sealed, plan_in_plan_file}
use Rattle.formats.proofs.PlanContent as PlanContent
use Rattle.formats.proofs.PlanSound.{Spared, check_as_judged}
use Rattle.formats.proofs.RequestFile.{file_word}

module _ (r : Request) (p : Plan) (small : (i : ℕ) → request_word r i < 4_294_967_296) (fits : PlanFits p) where
  file : List ℕ
  file = plan_file r p

  request_part : (i : ℕ) → i < 127 → word_in file 0 i ≡ request_word r i
  unfolding file
  request_part i h = rw (zero-add i) (file_word r small (plan_block p 0 ++ plan_block p 1) i h)

  plan_part : (half : ℕ) → half < 2 → (i : ℕ) → i < 127 → word_in file (1 + half) i ≡ plan_word p half i
  unfolding file
  plan_part = word_of_plan_file r p fits

  kinds : Silent (kind_row (1 ∷ 2 ∷ 3 ∷ []) file)
  unfolding request_word plan_word
  kinds zero h = ap not (eq-eqb (word_in file 0 0) 1 (request_part 0 (omega arith)))
  kinds (suc zero) h = ap not (eq-eqb (word_in file 1 0) 2 (plan_part 0 (omega arith) 0 (omega arith)))
  kinds (suc (suc zero)) h = ap not (eq-eqb (word_in file 2 0) 3 (plan_part 1 (omega arith) 0 (omega arith)))
  kinds (suc (suc (suc b))) h = absurd (omega arith)

  zero_word : (x : ℕ) → x ≡ 0 → ltb 0 x ≡ false
  zero_word x e = le-ltb 0 x (omega arith)

  spared : Spared file
  spared =
      record {
        request = λ i h. zero_word _ (request_part (83 + i) (omega arith) ∙ Content.word_spare r (83 + i) (omega arith));
        half = λ half l i h. zero_word _ (plan_part half l (75 + i) (omega arith) ∙ PlanContent.word_spare p half (75 + i) (omega arith));
      }

  base_held : (half : ℕ) → half < 2 → base_in file half ≡ p.base
  unfolding plan_word
  base_held half h =
      ap₂ wide (plan_part half h 1 (omega arith)) (plan_part half h 2 (omega arith)) ∙ PlanContent.wide_of_words p.base

  pub judged_as_file : Shaped r → PlanShaped p → check_verdict (plan_file r p) ≡ judged r p
  unfolding file
  judged_as_file t pt =
      check_as_judged file (length_plan_file r p) (λ b h. ap not (plan_file_sealed r p fits small b h)) kinds spared
      (base_held 1 (omega arith) ∙ sym (base_held 0 (omega arith)))
      ∙ ap₂ judged (request_in_plan_file r p small t) (plan_in_plan_file r p fits pt)

-- The numbers of a request's plan fit their types.
module _ (r : Request) (w : Within r) where
  words : (i : ℕ) → request_word r i < 4_294_967_296
  words = request_word_below r w

  rate_below : (c : ℕ) → c < 64 → numerator_of (plan_of r) c < 18_446_744_073_709_551_616
  rate_below =
      let right = right_plan_of r w in
      by_cell r (λ c. numerator_of (plan_of r) c < 18_446_744_073_709_551_616)
      (λ u v is.
      omega (
        arith,
        right.fair.allocation.bounded.demands u v is,
        mul-le-mul (w.demand u v is.input is.output) (base_of_plan_of r w).1,
      ))
      (λ u v hu hv past. omega (arith, right.blank.unused u v hu hv past))

  reason_below : (used met held : Bool) → cond used (cond met 0 (cond held 1 2)) 0 < 256
  reason_below true met held = omega (arith, at_most_two met held)
  reason_below false met held = omega arith

  plan_fits : PlanFits (plan_of r)
  plan_fits =
      let a = rates_of (plan_of r) in
      record {
        base = omega (arith, (base_of_plan_of r w).1);
        numerator = rate_below;
        reason = λ c h.
            rw ((right_plan_of r w).reasons c h)
            (reason_below (used_cell r c) (at_demand r a (input_of c) (output_of c)) (input_holds r a (input_of c) (output_of c)));
      }

  plan_shaped : PlanShaped (plan_of r)
  plan_shaped = let right = right_plan_of r w in record { numerators = right.cells.0; reasons = right.cells.1 }

  module _ (t : Shaped r) where
    pub written_accepted_by_check : check_verdict (plan_file r (plan_of r)) ≡ Accepted
    written_accepted_by_check = judged_as_file r (plan_of r) words plan_fits t plan_shaped ∙ judging_shown.plan_accepted r w

    pub request_held : request_in (plan_file r (plan_of r)) ≡ r
    request_held = request_in_plan_file r (plan_of r) words t

    pub plan_held : plan_in (plan_file r (plan_of r)) ≡ plan_of r
    plan_held = plan_in_plan_file r (plan_of r) plan_fits plan_shaped

    pub words_held : HoldsPlan (plan_file r (plan_of r)) r (plan_of r)
    words_held =
        let held = words_of_well_formed (plan_file r (plan_of r)) (well_formed_of_accepted (plan_file r (plan_of r)) written_accepted_by_check) in
        subst (λ (q : Request). HoldsPlan (plan_file r (plan_of r)) q (plan_of r)) request_held
        (subst (HoldsPlan (plan_file r (plan_of r)) (request_in (plan_file r (plan_of r)))) plan_held held)
