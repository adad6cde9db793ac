-- The text of a plan, from document 01's section 'The listing program', and what listing it into a buffer answers and leaves.
use Rattle.std.specs.Prelude.{ℕ, zero, suc, ◌*◌, List, [], ◌∷◌, ◌++◌, length, drop}
use Rattle.switch.specs.Cells.{input, output, cell_of, demand_of}
use Rattle.switch.specs.Numbering.{number_of}
use Rattle.switch.specs.Planned.{plan_of}
use Rattle.switch.specs.Rates.{flow, rates_of}
use Rattle.switch.specs.Rows.{row_verdict, if_accepted}
use Rattle.switch.specs.declared.plan.Plan.{Plan}
use Rattle.switch.specs.declared.port.Input.{Input}
use Rattle.switch.specs.declared.port.Output.{Output}
use Rattle.switch.specs.declared.request.Request.{Request}
use Rattle.switch.specs.declared.verdict.Refusal.{Refusal}
use Rattle.switch.specs.declared.verdict.Verdict.{Verdict}
use Rattle.switch.specs.declared.verdict.Verdict.TheVariants.{Accepted, Refused}
use Rattle.judging.specs.PlanWithin.{said_reason}
use Rattle.formats.specs.FileRows.{room_row}
use Rattle.formats.specs.RequestFile.{request_in, read_verdict}
use Rattle.texts.specs.Ascii.{ascii}
use Rattle.texts.specs.Decimal.{decimal}
use Rattle.texts.specs.declared.list.Listed.{Listed}

-- 'Fields have one space between them and every line ends in a line feed': the bytes 32 and 10.
abbrev pub line : List (List ℕ) → List ℕ
line [] = 10 ∷ []
line (field ∷ []) = field ++ (10 ∷ [])
line (field ∷ next ∷ rest) = (field ++ (32 ∷ [])) ++ line (next ∷ rest)

-- The first line says what the switch is and over which base the rates are.
unfoldable pub first_line : ℕ → ℕ → ℕ → List ℕ
first_line m n base = line (ascii "plan" ∷ decimal m ∷ decimal n ∷ ascii "base" ∷ decimal base ∷ [])

-- A flow's line: its input, its output, its demand, its numerator and its reason.
unfoldable pub flow_line : Input → Output → ℕ → ℕ → ℕ → List ℕ
flow_line u v demand numerator reason =
    line (decimal u.0 ∷ decimal v.0 ∷ decimal demand ∷ decimal numerator ∷ decimal reason ∷ [])

abbrev pub cell_line : Request → Plan → Input → Output → List ℕ
cell_line r p u v =
    flow_line u v (demand_of r (cell_of u v)) (flow (rates_of p) u v) (said_reason p (cell_of u v))

-- f 0, f 1, .., n texts one after another.
unfoldable pub each : ℕ → (ℕ → List ℕ) → List ℕ
each zero f = []
each (suc n) f = each n f ++ f n

-- One line for each used cell in cell order: input by input, and for each of them output by output.
abbrev pub input_lines : Request → Plan → Input → List ℕ
input_lines r p u = each r.n (λ v. cell_line r p u (output v))

abbrev pub cell_lines : Request → Plan → List ℕ
cell_lines r p = each r.m (λ u. input_lines r p (input u))

-- The last line, with the number of the used cells.
unfoldable pub last_line : ℕ → List ℕ
last_line cells = line (ascii "end" ∷ decimal cells ∷ [])

unfoldable pub plan_text : Request → Plan → List ℕ
plan_text r p = first_line r.m r.n p.base ++ (cell_lines r p ++ last_line (r.m * r.n))

-- A refusal's only line.
unfoldable pub refused_text : Refusal → List ℕ
refused_text x = line (ascii "refused" ∷ decimal (number_of x.cause) ∷ decimal x.place ∷ [])

-- The text for a file: that of its request's plan, or the refusal that reading it gives.
abbrev pub text_of : Verdict → Request → List ℕ
text_of Accepted r = plan_text r (plan_of r)
text_of (Refused x) r = refused_text x

abbrev pub listing_of : List ℕ → List ℕ
listing_of file = text_of (read_verdict file) (request_in file)

-- The text goes into a buffer if there is room for it, which is all that the verdict says.
abbrev pub room_verdict : List ℕ → List ℕ → Verdict
room_verdict text buffer = row_verdict (room_row (length text) buffer)

-- What is answered: the verdict, and how many bytes the text takes.
abbrev pub listed : List ℕ → List ℕ → Listed
listed file buffer =
    record {
      verdict = room_verdict (listing_of file) buffer;
      length = if_accepted (room_verdict (listing_of file) buffer) (length (listing_of file)) 0;
    }

-- The buffer afterwards: the text and after it what was there; on a refusal, what was there.
abbrev pub listed_in : List ℕ → List ℕ → List ℕ
listed_in file buffer =
    if_accepted (room_verdict (listing_of file) buffer) (listing_of file ++ drop (length (listing_of file)) buffer) buffer
