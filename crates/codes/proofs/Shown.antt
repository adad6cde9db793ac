-- What is shown of the calls for C.
use Prim.Native.Nat.{ℕ, ◌/◌, ◌%◌, ◌≤◌, ◌<◌}
use mathlib.Core.Logic.{◌↔◌, ◌⊎◌, inl, inr}
use mathlib.Core.Path.{◌≡◌, refl, sym, ◌∙◌, ap}
use mathlib.Core.List.{List, [], ◌∷◌}
use native.Mathlib.Nat.{zero-lt-suc}
use native.Mathlib.Omega.{arith}
use lib.ListN.{length, take, drop}
use Rattle.laws.proofs.Lists.{length-list}
use Rattle.laws.proofs.Search.{le_or_lt}
use Rattle.switch.specs.Given.{Gives, numbers_of}
use Rattle.switch.specs.Planned.{plan_of}
use Rattle.switch.specs.Within.{Shaped}
use Rattle.switch.specs.declared.request.Request.{Request}
use Rattle.switch.specs.declared.verdict.Refusal.{Refusal}
use Rattle.switch.specs.declared.verdict.Verdict.{Verdict}
use Rattle.switch.specs.declared.verdict.Verdict.TheVariants.{Accepted, Refused}
use Rattle.formats.specs.PlanFile.{plan_file, plan_in, check_verdict}
use Rattle.formats.specs.RequestFile.{request_in, read_verdict}
use Rattle.formats.proofs.PlanShown.{plan_writing_shown, choosing_shown}
use Rattle.formats.proofs.Saving.{write_accepts, room_of_accepted}
use Rattle.formats.proofs.Sound.{sound_of_accepted}
use Rattle.texts.specs.Listing.{first_line, plan_text, refused_text, text_of, listing_of, listed}
use Rattle.texts.proofs.Shown.{listing_shown}
use Rattle.codes.specs.Code.{code_of, Placed, plan_rows, plan_verdict, plan_laid, choice_of}
use Rattle.codes.specs.Shown.{Exporting}
use Rattle.codes.proofs.Places.{read_placed, check_placed, plan_placed, number_in_table}
use Rattle.codes.proofs.PlanLaid.{verdict_of_read, laid_of_read, read_of_accepted, laid_refused}

code_zero : (v : Verdict) → (code_of v ≡ 0) ↔ (v ≡ Accepted)
code_zero v = (to v, λ e. ap code_of e)
  where
    to : (v : Verdict) → code_of v ≡ 0 → v ≡ Accepted
    to Accepted e = refl
    to (Refused x) e = absurd (omega (arith, (number_in_table x.cause).0))

code_says : (v : Verdict) → Placed v → (k p : ℕ) → Gives v k p
    → (code_of v / 4_294_967_296 ≡ k) × (code_of v % 4_294_967_296 ≡ p)
code_says Accepted placed k p g = absurd g
code_says (Refused x) placed k p (number, place) =
    let low : x.place < 4_294_967_296 = placed _ _ (refl, refl) in (omega (arith, number), omega (arith, place))

rows_in_order : (file buffer : List ℕ) → numbers_of (plan_rows file buffer) ≡ 1 ∷ 2 ∷ 3 ∷ 4 ∷ 5 ∷ 6 ∷ 7 ∷ 16 ∷ []
rows_in_order file buffer = refl

accepted : (file buffer : List ℕ)
    → (plan_verdict file buffer ≡ Accepted) ↔ ((read_verdict file ≡ Accepted) × (1536 ≤ length buffer))
accepted file buffer = (to, from)
  where
    to : plan_verdict file buffer ≡ Accepted → (read_verdict file ≡ Accepted) × (1536 ≤ length buffer)
    to e =
        let read = read_of_accepted file buffer e in
        (read, (room_of_accepted 1536 (request_in file) buffer (sym (verdict_of_read file buffer read) ∙ e)).1)

    from : (read_verdict file ≡ Accepted) × (1536 ≤ length buffer) → plan_verdict file buffer ≡ Accepted
    from (read, room) =
        verdict_of_read file buffer read ∙ write_accepts 1536 (request_in file) buffer (sound_of_accepted file read).within room

-- What a file holds has tables of the right lengths.
shaped : (file : List ℕ) → Shaped (request_in file)
shaped file = record { inputs = length-list 8 _; outputs = length-list 8 _; demands = length-list 64 _ }

-- What is written in front is the plan file of the request that was read.
laid_in_front : (file buffer : List ℕ) → plan_verdict file buffer ≡ Accepted
    → take 1536 (plan_laid file buffer) ≡ plan_file (request_in file) (plan_of (request_in file))
laid_in_front file buffer e =
    let (read, room) = (accepted file buffer).0 e in
    ap (take 1536) (laid_of_read file buffer read)
    ∙ (plan_writing_shown.written (request_in file) buffer (sound_of_accepted file read).within (shaped file) room).1

laid : (file buffer : List ℕ) → plan_verdict file buffer ≡ Accepted
    → (check_verdict (take 1536 (plan_laid file buffer)) ≡ Accepted)
    × (request_in (take 1536 (plan_laid file buffer)) ≡ request_in file)
    × (plan_in (take 1536 (plan_laid file buffer)) ≡ plan_of (request_in file))
    × (drop 1536 (plan_laid file buffer) ≡ drop 1536 buffer)
laid file buffer e =
    let r = request_in file in
    let t = shaped file in
    let read = ((accepted file buffer).0 e).0 in
    let w = (sound_of_accepted file read).within in
    let front = laid_in_front file buffer e in (
      ap check_verdict front ∙ plan_writing_shown.accepted r w t,
      ap request_in front ∙ plan_writing_shown.request_held r w t,
      ap plan_in front ∙ plan_writing_shown.plan_held r w t,
      ap (drop 1536) (laid_of_read file buffer read) ∙ (plan_writing_shown.rest_kept r buffer).1,
    )

choice_proposed : (proposed running : List ℕ) → check_verdict proposed ≡ Accepted → choice_of proposed running ≡ 1
choice_proposed proposed running e = rw e

choice_running : (proposed running : List ℕ) (x : Refusal) → check_verdict proposed ≡ Refused x → check_verdict running ≡ Accepted
    → choice_of proposed running ≡ 2
choice_running proposed running x e f = rw (e, f)

choice_neither : (proposed running : List ℕ) (x y : Refusal) → check_verdict proposed ≡ Refused x → check_verdict running ≡ Refused y
    → choice_of proposed running ≡ 0
choice_neither proposed running x y e f = rw (e, f)

-- Every text begins with a word.
never_empty : (v : Verdict) (r : Request) → 0 < length (text_of v r)
unfolding plan_text first_line refused_text
never_empty Accepted r = zero-lt-suc _
never_empty (Refused x) r = zero-lt-suc _

without_text : (file text : List ℕ) → ((listed file text).length ≡ 0) ↔ (length text < length (listing_of file))
without_text file text = (λ e. go e (le_or_lt (length (listing_of file)) (length text)), λ h. (listing_shown.without_room file text h).1)
  where
    go : (listed file text).length ≡ 0 → (length (listing_of file) ≤ length text) ⊎ (length text < length (listing_of file))
        → length text < length (listing_of file)
    go e (inr h) = h
    go e (inl h) =
        absurd (omega (arith, (listing_shown.written file text h).0, e, never_empty (read_verdict file) (request_in file)))

pub exporting_shown : Exporting
exporting_shown =
    record {
      zero_exactly = code_zero;
      number_and_place = code_says;
      read_placed = read_placed;
      check_placed = check_placed;
      plan_placed = plan_placed;
      order = rows_in_order;
      accepted_exactly = accepted;
      written = laid;
      refused = laid_refused;
      proposed = λ p r e. (choice_proposed p r e, choosing_shown.proposed p r e);
      running = λ p r x e f. (choice_running p r x e f, choosing_shown.running p r x e f);
      neither = λ p r x y e f. (choice_neither p r x y e f, choosing_shown.neither p r x y e f);
      not_listed = without_text;
    }
