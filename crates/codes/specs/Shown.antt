-- What is shown of the calls for C, in one place: with `Code`, the file to read.
use Rattle.std.specs.Prelude.{ℕ, ◌/◌, ◌%◌, ◌≤◌, ◌<◌, ◌↔◌, ◌≡◌, List, [], ◌∷◌, length, take, drop}
use Rattle.switch.specs.Given.{Gives, numbers_of}
use Rattle.switch.specs.Planned.{plan_of}
use Rattle.switch.specs.declared.verdict.Refusal.{Refusal}
use Rattle.switch.specs.declared.verdict.Verdict.{Verdict}
use Rattle.switch.specs.declared.verdict.Verdict.TheVariants.{Accepted, Refused}
use Rattle.formats.specs.Chosen.{plan_blocks, chosen}
use Rattle.formats.specs.PlanFile.{plan_in, check_verdict}
use Rattle.formats.specs.RequestFile.{request_in, read_verdict}
use Rattle.texts.specs.Listing.{listing_of, listed}
use Rattle.codes.specs.Code.{code_of, Placed, plan_rows, plan_verdict, plan_laid, choice_of}

pub record Exporting : Type 0 where
  -- 0 says accepted, and nothing else
  pub zero_exactly : (v : Verdict) → (code_of v ≡ 0) ↔ (v ≡ Accepted)
  -- the upper half is the refusal's number, and the lower half its place
  pub number_and_place : (v : Verdict) → Placed v → (k p : ℕ) → Gives v k p
      → (code_of v / 4_294_967_296 ≡ k) × (code_of v % 4_294_967_296 ≡ p)
  -- which is so of every verdict that a call gives
  pub read_placed : (file : List ℕ) → Placed (read_verdict file)
  pub check_placed : (file : List ℕ) → Placed (check_verdict file)
  pub plan_placed : (file buffer : List ℕ) → Placed (plan_verdict file buffer)
  -- a plan file is written after 1 to 7, and then 16, are silent
  pub order : (file buffer : List ℕ) → numbers_of (plan_rows file buffer) ≡ 1 ∷ 2 ∷ 3 ∷ 4 ∷ 5 ∷ 6 ∷ 7 ∷ 16 ∷ []
  -- it is refused for a fault of the file or for the room alone
  pub accepted_exactly : (file buffer : List ℕ)
      → (plan_verdict file buffer ≡ Accepted) ↔ ((read_verdict file ≡ Accepted) × (1536 ≤ length buffer))
  -- what is written is accepted by the checker, it holds the request that was read and its plan, and what comes after it is kept
  pub written : (file buffer : List ℕ) → plan_verdict file buffer ≡ Accepted
      → (check_verdict (take 1536 (plan_laid file buffer)) ≡ Accepted)
      × (request_in (take 1536 (plan_laid file buffer)) ≡ request_in file)
      × (plan_in (take 1536 (plan_laid file buffer)) ≡ plan_of (request_in file))
      × (drop 1536 (plan_laid file buffer) ≡ drop 1536 buffer)
  -- a refusal keeps all
  pub refused : (file buffer : List ℕ) (x : Refusal) → plan_verdict file buffer ≡ Refused x → plan_laid file buffer ≡ buffer
  -- the number of a choice says whose plan the chooser hands back
  pub proposed : (proposed running : List ℕ) → check_verdict proposed ≡ Accepted
      → (choice_of proposed running ≡ 1) × (chosen proposed running ≡ plan_blocks proposed)
  pub running : (proposed running : List ℕ) (x : Refusal) → check_verdict proposed ≡ Refused x → check_verdict running ≡ Accepted
      → (choice_of proposed running ≡ 2) × (chosen proposed running ≡ plan_blocks running)
  pub neither : (proposed running : List ℕ) (x y : Refusal) → check_verdict proposed ≡ Refused x → check_verdict running ≡ Refused y
      → (choice_of proposed running ≡ 0) × (chosen proposed running ≡ [])
  -- no text is empty, so that a listing of 0 bytes says that there was no room, and nothing else
  pub not_listed : (file text : List ℕ) → ((listed file text).length ≡ 0) ↔ (length text < length (listing_of file))
