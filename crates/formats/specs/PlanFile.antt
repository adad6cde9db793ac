-- The plan file: document 01's section 'Blocks', its paragraph on the plan file; the rows that it meets; and what is written
-- as one.
use Rattle.std.specs.Prelude.{ℕ, ◌+◌, ◌-◌, ◌*◌, ◌/◌, ◌%◌, ◌≤◌, ◌<◌, ◌≡◌, cond, not, List, [], ◌∷◌, ◌++◌, eqb, ltb, get_or}
use Rattle.laws.specs.Lists.{list}
use Rattle.words.specs.Words.{word_of, word_at}
use Rattle.words.specs.Check.{start_of, block_of, word_in}
use Rattle.switch.specs.Cells.{cell_of}
use Rattle.switch.specs.Planned.{plan_of}
use Rattle.switch.specs.Rates.{flow, rates_of}
use Rattle.switch.specs.RequestRows.{ports_row, capacity_row, demand_row, not_zero_row}
use Rattle.switch.specs.Rows.{Row, joined, verdict_of}
use Rattle.switch.specs.declared.plan.Plan.{Plan}
use Rattle.switch.specs.declared.port.Input.{Input}
use Rattle.switch.specs.declared.port.Output.{Output}
use Rattle.switch.specs.declared.request.Request.{Request}
use Rattle.switch.specs.declared.verdict.Cause.TheVariants.{BaseDiffers}
use Rattle.switch.specs.declared.verdict.Verdict.{Verdict}
use Rattle.switch.specs.declared.verdict.Verdict.TheVariants.{Accepted}
use Rattle.judging.specs.PlanWithin.{said_reason}
use Rattle.judging.specs.Places.{low_word, high_word, reason_byte, low_of, high_of}
use Rattle.judging.specs.PlanRows.{numerator_of, cell_in, half_not_zero, base_row, reason_range_row, fair_rows}
use Rattle.formats.specs.FileRows.{length_row, check_row, kind_row, spare_row}
use Rattle.formats.specs.RequestFile.{Holds, request_file, request_in}
use Rattle.formats.specs.Writing.{written}

-- The number that two words make, the low one first.
abbrev pub wide : ℕ → ℕ → ℕ
wide low high = low + 4_294_967_296 * high

-- What the words of a plan file say, each at its place in that paragraph. Block 1 is half 0 of the plan, and block 2 is half 1.
pub record HoldsPlan (file : List ℕ) (r : Request) (p : Plan) : Type 0 where
  pub request : Holds (word_at file) r
  pub kind : (half : ℕ) → half < 2 → word_in file (1 + half) 0 ≡ 2 + half
  pub base : (half : ℕ) → half < 2 → wide (word_in file (1 + half) 1) (word_in file (1 + half) 2) ≡ p.base
  pub rate : (u : Input) (v : Output) → u.0 < 8 → v.0 < 8
      → wide (word_in file (1 + u.0 / 4) (3 + 2 * (8 * (u.0 % 4) + v.0)))
      (word_in file (1 + u.0 / 4) (4 + 2 * (8 * (u.0 % 4) + v.0))) ≡ flow (rates_of p) u v
  pub reason : (u : Input) (v : Output) → u.0 < 8 → v.0 < 8
      → get_or file (512 * (1 + u.0 / 4) + 4 * 67 + (8 * (u.0 % 4) + v.0)) 0 ≡ said_reason p (cell_of u v)
  pub spare : (half i : ℕ) → half < 2 → 75 ≤ i → i ≤ 126 → word_in file (1 + half) i ≡ 0

-- Four reasons in a word, from cell c on.
abbrev pub four_reasons : Plan → ℕ → ℕ
four_reasons p c = word_of (said_reason p c) (said_reason p (c + 1)) (said_reason p (c + 2)) (said_reason p (c + 3))

-- One of the two words of a numerator.
abbrev pub rate_word : Plan → ℕ → ℕ → ℕ
rate_word p c high = cond (eqb high 0) (low_of (numerator_of p c)) (high_of (numerator_of p c))

-- The same as a rule that computes word i of the content of a half's block.
unfoldable pub plan_word : Plan → ℕ → ℕ → ℕ
plan_word p half i =
    cond (ltb i 1) (2 + half)
    (cond (ltb i 2) (low_of p.base)
    (cond (ltb i 3) (high_of p.base)
    (cond (ltb i 67) (rate_word p (cell_in half ((i - 3) / 2)) ((i - 3) % 2))
    (cond (ltb i 75) (four_reasons p (cell_in half (4 * (i - 67)))) 0))))

-- The 512 bytes of a half's block.
abbrev pub plan_block : Plan → ℕ → List ℕ
plan_block p half = block_of (start_of (1 + half)) (plan_word p half)

-- The 1,536 bytes of a file: the request's block, and the plan's two.
abbrev pub plan_file : Request → Plan → List ℕ
plan_file r p = request_file r ++ (plan_block p 0 ++ plan_block p 1)

-- The base that a half's block holds.
abbrev pub base_in : List ℕ → ℕ → ℕ
base_in file half = wide (word_in file (1 + half) 1) (word_in file (1 + half) 2)

-- The plan that a file holds. Its base is block 1's.
abbrev pub plan_in : List ℕ → Plan
plan_in file =
    record {
      base = base_in file 0;
      numerators = list 64 (λ c. wide (word_at file (low_word c)) (word_at file (high_word c)));
      reasons = list 64 (λ c. get_or file (reason_byte c) 0);
    }

-- Row 7 of a plan file, in file order: the request's words and block 0's spare ones; then block by block the plan's unused
-- cells and the spare words.
abbrev pub plan_file_not_zero_row : List ℕ → Row
plan_file_not_zero_row file =
    joined (not_zero_row (request_in file))
    (joined (spare_row 0 83 44 file)
    (joined (half_not_zero (request_in file) (plan_in file) 0)
    (joined (spare_row 1 75 52 file)
    (joined (half_not_zero (request_in file) (plan_in file) 1) (spare_row 2 75 52 file)))))

-- Row 9: block 2's base, whose first word is 257, has to be block 1's.
abbrev pub base_differs_row : List ℕ → Row
base_differs_row file =
    record {
      cause = BaseDiffers;
      size = 1;
      offends = λ i. not (eqb (base_in file 1) (base_in file 0));
      place = λ i. 257;
    }

-- The rows that a plan file meets up to the one of number 10, and all of them, in the table's order.
abbrev pub format_rows : List ℕ → List Row
format_rows file =
    length_row 1536 file ∷ check_row 3 file ∷ kind_row (1 ∷ 2 ∷ 3 ∷ []) file ∷ ports_row (request_in file)
    ∷ capacity_row (request_in file) ∷ demand_row (request_in file) ∷ plan_file_not_zero_row file ∷ base_row (plan_in file).base
    ∷ base_differs_row file ∷ reason_range_row (request_in file) (plan_in file) ∷ []

abbrev pub plan_file_rows : List ℕ → List Row
plan_file_rows file = format_rows file ++ fair_rows (request_in file) (plan_in file)

abbrev pub check_verdict : List ℕ → Verdict
check_verdict file = verdict_of (plan_file_rows file)

-- Well-formed, from the text above the table: no refusal up to 10 is given.
abbrev pub WellFormed : List ℕ → Type 0
WellFormed file = verdict_of (format_rows file) ≡ Accepted

-- What writing a request with its plan leaves in a buffer: the call works the plan out itself.
abbrev pub plan_written : Request → List ℕ → List ℕ
plan_written r buffer = written 1536 (plan_file r (plan_of r)) r buffer
