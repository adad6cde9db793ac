-- The second demand: the plan of a request is its one fair allocation, exact and over the least base, with the reasons defined; the
-- checker takes a well-formed plan file exactly when it holds such rates and reasons; and what was saved is read again.
use Rattle.std.specs.Prelude.{ℕ, ◌+◌, ◌*◌, ◌≤◌, ◌<◌, List, ◌↔◌, ◌≡◌, get_or, length, take}
use Rattle.words.specs.Check.{word_in}
use Rattle.words.specs.Words.{Bytes, word_at, with_word}
use Rattle.switch.specs.Fairness.{Allocation, Fair, Settled, SameRates, LeastBase}
use Rattle.switch.specs.Given.{Gives}
use Rattle.switch.specs.Planned.{Right}
use Rattle.switch.specs.Rates.{Rates, rates_of}
use Rattle.switch.specs.Reason.{reason_of}
use Rattle.switch.specs.Within.{Within, Shaped}
use Rattle.switch.specs.declared.plan.Plan.{Plan}
use Rattle.switch.specs.declared.request.Request.{Request}
use Rattle.switch.specs.declared.verdict.Verdict.TheVariants.{Accepted}
use Rattle.switch.specs.Answer.{planned}
use Rattle.judging.specs.PlanRows.{judged}
use Rattle.judging.specs.PlanWithin.{PlanWithin}
use Rattle.judging.specs.Shown.{FairPlan, Judging}
use Rattle.formats.specs.PlanFile.{plan_in, check_verdict, WellFormed, plan_written}
use Rattle.formats.specs.PlanShown.{Checking, PlanWriting, Choosing}
use Rattle.formats.specs.RequestFile.{request_file, request_in, request_read, request_written}
use Rattle.formats.specs.Shown.{SavedAndRead}
use Rattle.texts.specs.Listing.{plan_text, listing_of}
use Rattle.texts.specs.Shown.{ListingShown}
use Rattle.formats.specs.Writing.{write_verdict}

pub record Demand2 : Type 0 where
  -- the plan is fair: feasible, bounded, and no flow could have more unless one loses that has no more than it
  pub fair : (r : Request) → Within r → Fair r (rates_of (planned r).plan)
  -- for what is feasible and bounded, that is to say that each flow has its demand or a bottleneck
  pub settled : (r : Request) → Within r → (a : Rates) → Allocation r a → (Fair r a ↔ Settled r a)
  -- nothing else is fair: rates are, over whatever base, exactly when they are the plan's
  pub alone : (r : Request) → Within r → (a : Rates) → 0 < a.base → (Fair r a ↔ SameRates r a (rates_of (planned r).plan))
  -- no smaller base serves all the rates
  pub least : (r : Request) → Within r → LeastBase r (rates_of (planned r).plan)
  -- every cell has the reason defined, and so has every number that is no cell's
  pub reasons : (r : Request) → Within r → (c : ℕ) → get_or (planned r).plan.reasons c 0 ≡ reason_of r (rates_of (planned r).plan) c
  -- no other plan is right in all of this
  pub one_plan : (r : Request) → Within r → (p : Plan) → Right r p ↔ (p ≡ (planned r).plan)
  -- a plan file is well-formed if no refusal up to 10 is given for it
  pub well_formed : (file : List ℕ) → WellFormed file ↔ ((k q : ℕ) → Gives (check_verdict file) k q → 10 < k)
  -- a well-formed one, whoever made it, is accepted exactly when its rates are fair and its reasons the ones defined
  pub checked : (file : List ℕ) → WellFormed file → (check_verdict file ≡ Accepted) ↔ FairPlan (request_in file) (plan_in file)
  -- and the same of values
  pub judged_exactly : (r : Request) (p : Plan) → (judged r p ≡ Accepted) ↔ (Within r × PlanWithin r p × FairPlan r p)
  -- a request that was written is read as it was
  pub request_saved : (r : Request) (buffer : List ℕ) → Within r → Shaped r → 512 ≤ length buffer
      → (write_verdict 512 r buffer ≡ Accepted)
      × (request_read (take 512 (request_written r buffer)) ≡ record { verdict = Accepted; request = r })
  -- and nothing is read but what writing makes
  pub only_saved : (file : List ℕ) → Bytes file
      → ((request_read file).verdict ≡ Accepted) ↔ ((r : Request) × Within r × Shaped r × (file ≡ request_file r))
  -- a request that was written with its plan is accepted, and both are there
  pub plan_saved : (r : Request) (buffer : List ℕ) → Within r → Shaped r → 1536 ≤ length buffer
      → (write_verdict 1536 r buffer ≡ Accepted) × (check_verdict (take 1536 (plan_written r buffer)) ≡ Accepted)
      × (request_in (take 1536 (plan_written r buffer)) ≡ r) × (plan_in (take 1536 (plan_written r buffer)) ≡ (planned r).plan)
  -- the file of a request is listed as the request and its plan
  pub listed : (r : Request) → Within r → Shaped r → listing_of (request_file r) ≡ plan_text r (planned r).plan
  -- a file of which one word was changed since is refused 2, at that word's block
  pub request_damaged : (file : List ℕ) → Bytes file → (request_read file).verdict ≡ Accepted
      → (k w : ℕ) → k < 128 → w < 4_294_967_296 → (w ≡ word_at file k → ⊥)
      → Gives (request_read (with_word file k w)).verdict 2 127
  pub plan_damaged : (file : List ℕ) → Bytes file → check_verdict file ≡ Accepted
      → (b k w : ℕ) → b < 3 → k < 128 → w < 4_294_967_296 → (w ≡ word_in file b k → ⊥)
      → Gives (check_verdict (with_word file (128 * b + k) w)) 2 (128 * b + 127)
  -- what else is shown of judging, checking, saving and choosing, where their definitions stand
  pub judging : Judging
  pub checking : Checking
  pub saving : SavedAndRead
  pub plan_writing : PlanWriting
  pub choosing : Choosing
  pub listing : ListingShown
