-- The request file: document 01's section 'Blocks', its paragraph on the request file, and what the text below the table
-- 'Refusal numbers' says of reading and writing a request.
use Rattle.std.specs.Prelude.{ℕ, ◌+◌, ◌-◌, ◌*◌, ◌≤◌, ◌<◌, ◌≡◌, cond, List, [], ◌∷◌, ltb}
use Rattle.laws.specs.Lists.{list}
use Rattle.words.specs.Words.{word_at}
use Rattle.words.specs.Check.{start_of, block_of}
use Rattle.switch.specs.Cells.{input, output, cell_of, input_capacity, output_capacity, demand_of}
use Rattle.switch.specs.RequestRows.{ports_row, capacity_row, demand_row, not_zero_row}
use Rattle.switch.specs.Rows.{Row, joined, verdict_of, if_accepted}
use Rattle.switch.specs.Values.{zero_request}
use Rattle.switch.specs.declared.port.Input.{Input}
use Rattle.switch.specs.declared.port.Output.{Output}
use Rattle.switch.specs.declared.request.Request.{Request}
use Rattle.switch.specs.declared.verdict.Verdict.{Verdict}
use Rattle.formats.specs.FileRows.{length_row, check_row, kind_row, spare_row}
use Rattle.formats.specs.Writing.{written}
use Rattle.formats.specs.declared.request.RequestRead.{RequestRead}

-- What the words of a request's block say, each at its place in that paragraph.
pub record Holds (word : ℕ → ℕ) (r : Request) : Type 0 where
  pub kind : word 0 ≡ 1
  pub inputs : word 1 ≡ r.m
  pub outputs : word 2 ≡ r.n
  pub input_capacity_within : (u : Input) → u.0 < 8 → word (3 + u.0) ≡ input_capacity r u
  pub output_capacity_within : (v : Output) → v.0 < 8 → word (11 + v.0) ≡ output_capacity r v
  pub demand : (u : Input) (v : Output) → u.0 < 8 → v.0 < 8 → word (19 + 8 * u.0 + v.0) ≡ demand_of r (cell_of u v)
  pub spare : (i : ℕ) → 83 ≤ i → i ≤ 126 → word i ≡ 0

-- The same as a rule that computes word i of the block's content.
unfoldable pub request_word : Request → ℕ → ℕ
request_word r i =
    cond (ltb i 1) 1
    (cond (ltb i 2) r.m
    (cond (ltb i 3) r.n
    (cond (ltb i 11) (input_capacity r (input (i - 3)))
    (cond (ltb i 19) (output_capacity r (output (i - 11))) (cond (ltb i 83) (demand_of r (i - 19)) 0)))))

-- The 512 bytes of a request's file: its block, as block 0.
abbrev pub request_file : Request → List ℕ
request_file r = block_of (start_of 0) (request_word r)

-- The request that a file's block 0 holds.
abbrev pub request_in : List ℕ → Request
request_in file =
    record {
      m = word_at file 1;
      n = word_at file 2;
      inputs = list 8 (λ i. word_at file (3 + i));
      outputs = list 8 (λ i. word_at file (11 + i));
      demands = list 64 (λ i. word_at file (19 + i));
    }

-- The rows that a request file meets, in the table's order. Row 7 goes on from the request's words to the spare ones.
abbrev pub file_not_zero_row : List ℕ → Row
file_not_zero_row file = joined (not_zero_row (request_in file)) (spare_row 0 83 44 file)

abbrev pub request_file_rows : List ℕ → List Row
request_file_rows file =
    length_row 512 file ∷ check_row 1 file ∷ kind_row (1 ∷ []) file ∷ ports_row (request_in file) ∷ capacity_row (request_in file)
    ∷ demand_row (request_in file) ∷ file_not_zero_row file ∷ []

abbrev pub read_verdict : List ℕ → Verdict
read_verdict file = verdict_of (request_file_rows file)

-- What reading hands back: with a refusal of whatever cause, zeros.
abbrev pub request_read : List ℕ → RequestRead
request_read file =
    record { verdict = read_verdict file; request = if_accepted (read_verdict file) (request_in file) zero_request }

-- What writing a request leaves in a buffer.
abbrev pub request_written : Request → List ℕ → List ℕ
request_written r buffer = written 512 (request_file r) r buffer
