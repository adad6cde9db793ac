-- The first demand: every call ends and stays inside what it was lent; what is outside the rules is refused with the right number
-- and place, and a refusal changes nothing; and nothing within the limits is refused because some number would not fit.
-- That a call ends, reads and writes only what it was lent, and that no sum wraps and no cast loses bits, is what the prover shows
-- of every function before anything else. The rest is here, for the definitions by which the calls answer (`Calls`).
use Rattle.std.specs.Prelude.{ℕ, ◌≤◌, ◌<◌, List, [], ◌∷◌, ◌⊎◌, ◌↔◌, ◌≡◌, length, drop}
use Rattle.switch.specs.Fault.{Fault}
use Rattle.switch.specs.Given.{Applies, Gives, numbers_of}
use Rattle.switch.specs.Numbering.{number_of}
use Rattle.switch.specs.RequestRows.{request_rows}
use Rattle.switch.specs.Rows.{Row}
use Rattle.switch.specs.Values.{empty_plan, zero_request}
use Rattle.switch.specs.Within.{Within, Shaped}
use Rattle.switch.specs.declared.plan.Plan.{Plan}
use Rattle.switch.specs.declared.request.Request.{Request}
use Rattle.switch.specs.declared.verdict.Refusal.{Refusal}
use Rattle.switch.specs.declared.verdict.Verdict.{Verdict}
use Rattle.switch.specs.declared.verdict.Verdict.TheVariants.{Accepted, Refused}
use Rattle.switch.specs.Answer.{planned}
use Rattle.judging.specs.Fault.{PlanFault}
use Rattle.judging.specs.PlanRows.{judge_rows, judged}
use Rattle.formats.specs.Fault.{FileFault, WriteFault}
use Rattle.formats.specs.PlanFault.{PlanFileFault}
use Rattle.formats.specs.PlanFile.{plan_file, plan_file_rows, check_verdict, plan_written}
use Rattle.formats.specs.RequestFile.{request_file, request_file_rows, request_read, request_written}
use Rattle.formats.specs.Writing.{write_rows, write_verdict}
use Rattle.texts.specs.Ascii.{ascii}
use Rattle.texts.specs.Decimal.{decimal}
use Rattle.texts.specs.Listing.{line, listing_of, listed, listed_in}
use Rattle.codes.specs.Code.{plan_rows, plan_verdict}
use Rattle.codes.specs.Fault.{LaidFault}
use Rattle.codes.specs.Shown.{Exporting}

-- A verdict follows these rows of the refusal table.
pub record Follows (verdict : Verdict) (rows : List Row) (numbers : List ℕ) (Wrong : ℕ → ℕ → Type 0) : Type 0 where
  -- number k at place p is given exactly when a row of that number applies there and no row before it applies anywhere
  pub exactly : (k p : ℕ) → Gives verdict k p ↔ ((row : Row) × Applies rows row p × (number_of row.cause ≡ k))
  -- the rows have these numbers, and stand in the table's order
  pub order : numbers_of rows ≡ numbers
  -- what is named by number and place is wrong there, said without any search
  pub named : (k p : ℕ) → Gives verdict k p → Wrong k p
  -- and is the first: no fault has a lower number, and none of the same number a lower place
  pub first : (k p : ℕ) → Gives verdict k p → (k' p' : ℕ) → Wrong k' p' → (k < k') ⊎ ((k ≡ k') × (p ≤ p'))
  -- and where nothing is refused there is no fault
  pub none : verdict ≡ Accepted → (k p : ℕ) → Wrong k p → ⊥

pub record Demand1 : Type 0 where
  -- which number, and which place: a call gives its share of the table
  pub planning : (r : Request) → Follows (planned r).verdict (request_rows r) (4 ∷ 5 ∷ 6 ∷ 7 ∷ []) (Fault r)
  pub reading : (file : List ℕ)
      → Follows (request_read file).verdict (request_file_rows file) (1 ∷ 2 ∷ 3 ∷ 4 ∷ 5 ∷ 6 ∷ 7 ∷ []) (FileFault file)
  pub writing : (size : ℕ) (r : Request) (buffer : List ℕ)
      → Follows (write_verdict size r buffer) (write_rows size r buffer) (4 ∷ 5 ∷ 6 ∷ 7 ∷ 16 ∷ []) (WriteFault size r buffer)
  pub judging : (r : Request) (p : Plan)
      → Follows (judged r p) (judge_rows r p) (4 ∷ 5 ∷ 6 ∷ 7 ∷ 8 ∷ 10 ∷ 11 ∷ 12 ∷ 13 ∷ 14 ∷ 15 ∷ []) (PlanFault r p)
  pub checking : (file : List ℕ)
      → Follows (check_verdict file) (plan_file_rows file)
      (1 ∷ 2 ∷ 3 ∷ 4 ∷ 5 ∷ 6 ∷ 7 ∷ 8 ∷ 9 ∷ 10 ∷ 11 ∷ 12 ∷ 13 ∷ 14 ∷ 15 ∷ []) (PlanFileFault file)
  pub exporting : (file buffer : List ℕ)
      → Follows (plan_verdict file buffer) (plan_rows file buffer) (1 ∷ 2 ∷ 3 ∷ 4 ∷ 5 ∷ 6 ∷ 7 ∷ 16 ∷ []) (LaidFault file buffer)
  -- a refused call changes no byte that was lent to it
  pub request_not_written : (r : Request) (buffer : List ℕ) (x : Refusal)
      → write_verdict 512 r buffer ≡ Refused x → request_written r buffer ≡ buffer
  pub plan_not_written : (r : Request) (buffer : List ℕ) (x : Refusal)
      → write_verdict 1536 r buffer ≡ Refused x → plan_written r buffer ≡ buffer
  -- and whatever the verdict, no byte behind the file
  pub behind_request : (r : Request) (buffer : List ℕ)
      → (length (request_written r buffer) ≡ length buffer) × (drop 512 (request_written r buffer) ≡ drop 512 buffer)
  pub behind_plan : (r : Request) (buffer : List ℕ)
      → (length (plan_written r buffer) ≡ length buffer) × (drop 1536 (plan_written r buffer) ≡ drop 1536 buffer)
  -- where there is no room for a listing, none is written: refused 16 at 0, with length 0; and no byte behind a text is changed
  pub not_listed : (file buffer : List ℕ) → length buffer < length (listing_of file)
      → Gives (listed file buffer).verdict 16 0 × ((listed file buffer).length ≡ 0) × (listed_in file buffer ≡ buffer)
  pub behind_listing : (file buffer : List ℕ)
      → (length (listed_in file buffer) ≡ length buffer)
      × (drop (listed file buffer).length (listed_in file buffer) ≡ drop (listed file buffer).length buffer)
  -- a refusal hands back the empty plan, and zeros for a request
  pub no_plan : (r : Request) (x : Refusal) → (planned r).verdict ≡ Refused x → (planned r).plan ≡ empty_plan
  pub no_request : (file : List ℕ) (x : Refusal) → (request_read file).verdict ≡ Refused x → (request_read file).request ≡ zero_request
  -- the line of a listing that is refused says the number and the place
  pub refusal_listed : (file : List ℕ) (k p : ℕ) → Gives (request_read file).verdict k p
      → listing_of file ≡ line (ascii "refused" ∷ decimal k ∷ decimal p ∷ [])
  -- a program in C is told by one number: 0 for accepted, otherwise the number times 2^32 plus the place
  pub for_c : Exporting
  -- no request within the limits is refused, and no other is planned
  pub planned_exactly : (r : Request) → ((planned r).verdict ≡ Accepted) ↔ Within r
  -- its plan's base is in range: no number fails to fit
  pub base_fits : (r : Request) → Within r → (1 ≤ (planned r).plan.base) × ((planned r).plan.base ≤ 4_294_967_296)
  -- it and its plan are written wherever there is room,
  pub written_exactly : (size : ℕ) (r : Request) (buffer : List ℕ)
      → (write_verdict size r buffer ≡ Accepted) ↔ (Within r × (size ≤ length buffer))
  -- and what was written is read, is accepted, and judged right
  pub read_again : (r : Request) → Within r → Shaped r → (request_read (request_file r)).verdict ≡ Accepted
  pub accepted_again : (r : Request) → Within r → Shaped r → check_verdict (plan_file r (planned r).plan) ≡ Accepted
  pub judged_right : (r : Request) → Within r → judged r (planned r).plan ≡ Accepted
