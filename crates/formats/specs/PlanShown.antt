-- What is shown of plan files, in one place: with `PlanFile` and `Chosen`, the file to read. The second demand asks for it, and
-- the first for what it says of refusals.
use Rattle.std.specs.Prelude.{ℕ, ◌+◌, ◌*◌, ◌≤◌, ◌<◌, ◌↔◌, ◌≡◌, List, [], ◌∷◌, length, take, drop}
use Rattle.words.specs.Words.{Bytes, with_word}
use Rattle.words.specs.Check.{word_in}
use Rattle.switch.specs.Given.{Silent, Applies, Gives, NoLater, numbers_of}
use Rattle.switch.specs.Numbering.{number_of}
use Rattle.switch.specs.Planned.{plan_of}
use Rattle.switch.specs.Rows.{Row}
use Rattle.switch.specs.Within.{Within, Shaped}
use Rattle.switch.specs.declared.plan.Plan.{Plan}
use Rattle.switch.specs.declared.request.Request.{Request}
use Rattle.switch.specs.declared.verdict.Refusal.{Refusal}
use Rattle.switch.specs.declared.verdict.Verdict.TheVariants.{Accepted, Refused}
use Rattle.judging.specs.PlanRows.{numerator_of, judged}
use Rattle.judging.specs.PlanWithin.{said_reason, PlanShaped}
use Rattle.judging.specs.Shown.{FairPlan}
use Rattle.formats.specs.Chosen.{plan_blocks, chosen}
use Rattle.formats.specs.FileRows.{check_row}
use Rattle.formats.specs.PlanFault.{PlanFileFault}
use Rattle.formats.specs.PlanFile.{HoldsPlan, plan_file, plan_in, plan_file_rows, check_verdict, WellFormed, plan_written}
use Rattle.formats.specs.RequestFile.{request_word, request_in}
use Rattle.formats.specs.Writing.{write_verdict}

-- What the types of a plan's numbers say of them: 64 bits, and 8 for a reason.
pub record PlanFits (p : Plan) : Type 0 where
  pub base : p.base < 18_446_744_073_709_551_616
  pub numerator : (c : ℕ) → c < 64 → numerator_of p c < 18_446_744_073_709_551_616
  pub reason : (c : ℕ) → c < 64 → said_reason p c < 256

-- The checker, for every row of bytes.
pub record Checking : Type 0 where
  -- a well-formed file is accepted exactly when its rates are its request's fair rates and its reasons the ones defined
  pub accepted_exactly : (file : List ℕ) → WellFormed file → (check_verdict file ≡ Accepted) ↔ FairPlan (request_in file) (plan_in file)
  -- well-formed is what is given no refusal up to 10, and so what is accepted is well-formed
  pub well_formed_exactly : (file : List ℕ) → WellFormed file ↔ ((k q : ℕ) → Gives (check_verdict file) k q → 10 < k)
  -- the words of a well-formed file stand where document 01 puts them
  pub words_read : (file : List ℕ) → WellFormed file → HoldsPlan file (request_in file) (plan_in file)
  -- a request of numbers of 32 bits is judged with a plan as the file is that would hold both
  pub judged_as_file : (r : Request) (p : Plan) → Shaped r → PlanShaped p → ((i : ℕ) → request_word r i < 4_294_967_296) → PlanFits p
      → check_verdict (plan_file r p) ≡ judged r p
  -- number k at place q is given exactly when a row of that number applies there and no row before it applies
  pub gives : (file : List ℕ) (k q : ℕ)
      → Gives (check_verdict file) k q ↔ ((row : Row) × Applies (plan_file_rows file) row q × (number_of row.cause ≡ k))
  -- what a refusal names is there, in the place that it names
  pub fault : (file : List ℕ) (k q : ℕ) → Gives (check_verdict file) k q → PlanFileFault file k q
  -- and is the first: no fault has a lower number, and none of the same number a lower place
  pub first : (file : List ℕ) (k q : ℕ) → Gives (check_verdict file) k q
      → (k' q' : ℕ) → PlanFileFault file k' q' → NoLater k q k' q'
  -- what is accepted has no fault
  pub none : (file : List ℕ) → check_verdict file ≡ Accepted → (k q : ℕ) → PlanFileFault file k q → ⊥
  -- the rows are the table's, in its order
  pub order : (file : List ℕ)
      → numbers_of (plan_file_rows file)
      ≡ 1 ∷ 2 ∷ 3 ∷ 4 ∷ 5 ∷ 6 ∷ 7 ∷ 8 ∷ 9 ∷ 10 ∷ 11 ∷ 12 ∷ 13 ∷ 14 ∷ 15 ∷ []
  -- a file with sealed blocks of which one word was changed is refused 2 at that word's block
  pub damage_refused : (file : List ℕ) → Bytes file → length file ≡ 1536 → Silent (check_row 3 file)
      → (b k w : ℕ) → b < 3 → k < 128 → w < 4_294_967_296 → (w ≡ word_in file b k → ⊥)
      → Gives (check_verdict (with_word file (128 * b + k) w)) 2 (128 * b + 127)

-- Writing a request with its plan. What is written is `plan_file r (plan_of r)`; refusals, and the bytes that are kept, are shown
-- for files of any size in `Shown`.
pub record PlanWriting : Type 0 where
  -- a request within the limits is written with its plan wherever there is room
  pub written : (r : Request) (buffer : List ℕ) → Within r → Shaped r → 1536 ≤ length buffer
      → (write_verdict 1536 r buffer ≡ Accepted) × (take 1536 (plan_written r buffer) ≡ plan_file r (plan_of r))
  -- the file is accepted,
  pub accepted : (r : Request) → Within r → Shaped r → check_verdict (plan_file r (plan_of r)) ≡ Accepted
  -- and holds the request and the numbers of its plan, each where document 01 puts it
  pub request_held : (r : Request) → Within r → Shaped r → request_in (plan_file r (plan_of r)) ≡ r
  pub plan_held : (r : Request) → Within r → Shaped r → plan_in (plan_file r (plan_of r)) ≡ plan_of r
  pub words_written : (r : Request) → Within r → Shaped r → HoldsPlan (plan_file r (plan_of r)) r (plan_of r)
  -- the file is a row of 1,536 bytes
  pub bytes : (r : Request) → Bytes (plan_file r (plan_of r)) × (length (plan_file r (plan_of r)) ≡ 1536)
  -- a refusal leaves the buffer as it was, and nothing after the file is ever changed
  pub refused : (r : Request) (buffer : List ℕ) (x : Refusal) → write_verdict 1536 r buffer ≡ Refused x → plan_written r buffer ≡ buffer
  pub rest_kept : (r : Request) (buffer : List ℕ)
      → (length (plan_written r buffer) ≡ length buffer) × (drop 1536 (plan_written r buffer) ≡ drop 1536 buffer)

-- The chooser.
pub record Choosing : Type 0 where
  -- an accepted proposal is chosen,
  pub proposed : (proposed running : List ℕ) → check_verdict proposed ≡ Accepted → chosen proposed running ≡ plan_blocks proposed
  -- a refused one never: then the running file, if it is accepted,
  pub running : (proposed running : List ℕ) (x : Refusal) → check_verdict proposed ≡ Refused x → check_verdict running ≡ Accepted
      → chosen proposed running ≡ plan_blocks running
  -- and otherwise nothing
  pub neither : (proposed running : List ℕ) (x y : Refusal) → check_verdict proposed ≡ Refused x → check_verdict running ≡ Refused y
      → chosen proposed running ≡ []
  -- what is chosen of an accepted file is its last 1,024 bytes
  pub blocks : (file : List ℕ) → check_verdict file ≡ Accepted → (plan_blocks file ≡ drop 512 file) × (length (plan_blocks file) ≡ 1024)
