-- Rows 10 to 15 as a program works them out in 64 bits, over all cells and eight ports on a side. For a request and a plan that
-- have passed rows 4 to 8 they say what document 01's rows say; nobody else hears them.
use Rattle.std.specs.Prelude.{ℕ, ◌*◌, ◌/◌, Bool, cond, not, ◌&&◌, List, [], ◌∷◌, eqb, leb, ltb, get_or}
use Rattle.laws.specs.Lists.{list}
use Rattle.switch.specs.Cells.{input, output, input_of, output_of}
use Rattle.switch.specs.Rows.{Row, row_verdict, verdict_of}
use Rattle.switch.specs.Tables.{used_at}
use Rattle.switch.specs.declared.plan.Plan.{Plan}
use Rattle.switch.specs.declared.request.Request.{Request}
use Rattle.switch.specs.declared.verdict.Cause.{Cause}
use Rattle.switch.specs.declared.verdict.Cause.TheVariants.{ReasonRange, AboveDemand, InputOver, OutputOver, NoBottleneck, WrongReason}
use Rattle.switch.specs.declared.verdict.Verdict.{Verdict}
use Rattle.worked.specs.Port.{input_port, output_port}
use Rattle.worked.specs.Saturated.{capped, largest}
use Rattle.worked.specs.declared.port.Port.{Port}
use Rattle.worked.specs.declared.side.Weighed.{Weighed}

-- Capacities or demands over a base.
abbrev pub scaled : ℕ → ℕ → List ℕ → List ℕ
scaled n b xs = list n (λ i. capped (get_or xs i 0 * b))

-- The ports of a side by their numbers, and their sums.
abbrev pub input_side : ℕ → List ℕ → ℕ → Port
input_side n xs k = input_port n xs (input k)

abbrev pub output_side : ℕ → List ℕ → ℕ → Port
output_side m xs k = output_port m xs (output k)

abbrev pub sums : (ℕ → Port) → List ℕ
sums side = list 8 (λ k. (side k).sum)

-- From which numerator on a port holds a flow back that is below its demand: from its largest on if it is full, and otherwise
-- from none.
abbrev pub level_of : ℕ → ℕ → ℕ → ℕ
level_of full sum most = cond (eqb sum full) most largest

abbrev pub levels : List ℕ → (ℕ → Port) → List ℕ
levels full side = list 8 (λ k. level_of (get_or full k 0) (side k).sum (side k).most)

-- Row 10.
abbrev pub range_worked : List ℕ → Row
range_worked reasons =
    record { cause = ReasonRange; size = 64; offends = λ c. ltb 2 (get_or reasons c 0); place = λ c. c }

-- Rows 11, 12 and 13: the first number of a table that is more than another's.
abbrev pub more_row : Cause → ℕ → List ℕ → List ℕ → Row
more_row cause size most xs =
    record { cause = cause; size = size; offends = λ i. ltb (get_or most i 0) (get_or xs i 0); place = λ i. i }

-- Row 14: below its demand, and below the levels of both its ports.
abbrev pub below : ℕ → ℕ → ℕ → ℕ → Bool
below asked entering leaving x = ltb x asked && ltb x entering && ltb x leaving

abbrev pub free_row : ℕ → ℕ → List ℕ → List ℕ → List ℕ → List ℕ → Row
free_row m n asked xs entering leaving =
    record {
      cause = NoBottleneck;
      size = 64;
      offends = λ c. used_at m n c
          && below (get_or asked c 0) (get_or entering (input_of c).0 0) (get_or leaving (output_of c).0 0) (get_or xs c 0);
      place = λ c. c;
    }

-- Row 15: the reason of a flow, by the level of its input.
abbrev pub reason_by : ℕ → ℕ → ℕ → ℕ
reason_by asked entering x = cond (eqb x asked) 0 (cond (ltb x asked && leb entering x) 1 2)

abbrev pub reasons_row : List ℕ → List ℕ → List ℕ → List ℕ → Row
reasons_row asked xs entering reasons =
    record {
      cause = WrongReason;
      size = 64;
      offends = λ c. not (eqb (get_or reasons c 0) (reason_by (get_or asked c 0) (get_or entering (c / 8) 0) (get_or xs c 0)));
      place = λ c. c;
    }

-- What is asked of a side's ports, and of each side's.
abbrev pub weighed : Cause → List ℕ → ℕ → (ℕ → Port) → Weighed
weighed cause capacities b side =
    record {
      over = row_verdict (more_row cause 8 (scaled 8 b capacities) (sums side));
      levels = levels (scaled 8 b capacities) side;
    }

abbrev pub inputs_weighed : ℕ → List ℕ → ℕ → List ℕ → Weighed
inputs_weighed n capacities b xs = weighed InputOver capacities b (input_side n xs)

abbrev pub outputs_weighed : ℕ → List ℕ → ℕ → List ℕ → Weighed
outputs_weighed m capacities b xs = weighed OutputOver capacities b (output_side m xs)

-- All rows, one after the other.
abbrev pub worked_rows : Request → Plan → List Row
worked_rows r p =
    range_worked p.reasons
    ∷ more_row AboveDemand 64 (scaled 64 p.base r.demands) p.numerators
    ∷ more_row InputOver 8 (scaled 8 p.base r.inputs) (sums (input_side r.n p.numerators))
    ∷ more_row OutputOver 8 (scaled 8 p.base r.outputs) (sums (output_side r.m p.numerators))
    ∷ free_row r.m r.n (scaled 64 p.base r.demands) p.numerators
    (inputs_weighed r.n r.inputs p.base p.numerators).levels
    (outputs_weighed r.m r.outputs p.base p.numerators).levels
    ∷ reasons_row (scaled 64 p.base r.demands) p.numerators
    (inputs_weighed r.n r.inputs p.base p.numerators).levels p.reasons ∷ []

abbrev pub rates_worked : Request → Plan → Verdict
rates_worked r p = verdict_of (worked_rows r p)
