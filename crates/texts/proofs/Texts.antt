-- What a text says: of a request, of a refusal, and of document 01's example; and on how many lines.
use Prim.Native.Nat.{ℕ, zero, suc, ◌+◌, ◌*◌, ◌%◌}
use mathlib.Core.Path.{◌≡◌, refl, sym, ◌∙◌, ap, ap₂}
use mathlib.Core.List.Memᴰ
use mathlib.Core.List.{List, [], ◌∷◌, ◌++◌}
use native.Mathlib.Nat.{zero-add, suc-mul}
use native.Mathlib.Omega.{arith}
use borrow.Author.Tests.{ne_eqb}
use Rattle.switch.specs.Cells.{input, output}
use Rattle.switch.specs.Drawn.{rows, Example, largest_numbers, listed_example, drawn_plans}
use Rattle.switch.specs.Given.{Gives}
use Rattle.switch.specs.Planned.{plan_of}
use Rattle.switch.specs.RequestRows.{request_verdict}
use Rattle.switch.specs.Rows.{first_from, row_verdict, verdict_of}
use Rattle.switch.specs.Within.{Within, Shaped}
use Rattle.switch.specs.declared.plan.Plan.{Plan}
use Rattle.switch.specs.declared.port.Input.{Input}
use Rattle.switch.specs.declared.port.Output.{Output}
use Rattle.switch.specs.declared.request.Request.{Request}
use Rattle.switch.specs.declared.verdict.Verdict.{Verdict}
use Rattle.switch.specs.declared.verdict.Verdict.TheVariants.{Accepted, Refused}
use Rattle.switch.proofs.Drawn.{drawn_plans_are_right}
use Rattle.switch.proofs.Within.{within_of_accepted}
use Rattle.formats.specs.RequestFile.{request_file, request_in, read_verdict}
use Rattle.formats.specs.declared.request.RequestRead.{RequestRead}
use Rattle.formats.proofs.RequestFile.{read_accepted, read_accepts_written, read_back}
use Rattle.texts.specs.Ascii.{ascii}
use Rattle.texts.specs.Decimal.{digits, decimal}
use Rattle.texts.specs.Listing.{line, first_line, flow_line, each, cell_lines, last_line, plan_text, refused_text, text_of, listing_of}
use Rattle.texts.specs.Shown.{drawn_text, wide_text, lines_in}
use Rattle.texts.proofs.Decimal.{by_digits}

pub planned : (r : Request) → Within r → Shaped r → listing_of (request_file r) ≡ plan_text r (plan_of r)
planned r w t =
    let accepts = read_accepts_written r w t in
    let held = sym (ap (λ (x : RequestRead). x.request) (read_accepted (request_file r) accepts))
    ∙ ap (λ (x : RequestRead). x.request) (read_back r w t) in
    ap₂ text_of accepts held

-- The examples: their plans are worked out where they are drawn, and their texts here.
plan_of-drawn : plan_of listed_example.request ≡ listed_example.plan
unfolding drawn_plans
plan_of-drawn =
    drawn_plans_are_right listed_example
    (Memᴰ.tail (Memᴰ.tail (Memᴰ.tail (Memᴰ.tail (Memᴰ.tail (Memᴰ.tail (Memᴰ.tail (Memᴰ.head refl))))))))

plan_of-wide : plan_of largest_numbers.request ≡ largest_numbers.plan
unfolding drawn_plans
plan_of-wide =
    drawn_plans_are_right largest_numbers
    (Memᴰ.tail (Memᴰ.tail (Memᴰ.tail (Memᴰ.tail (Memᴰ.tail (Memᴰ.tail (Memᴰ.head refl)))))))

text_of-drawn : plan_text listed_example.request listed_example.plan ≡ drawn_text
unfolding rows digits decimal first_line flow_line each last_line plan_text
text_of-drawn = refl

text_of-wide : plan_text largest_numbers.request largest_numbers.plan ≡ wide_text
unfolding rows digits decimal first_line flow_line each last_line plan_text
text_of-wide = refl

listed_as : (e : Example) (text : List ℕ) → request_verdict e.request ≡ Accepted → Shaped e.request
    → plan_of e.request ≡ e.plan → plan_text e.request e.plan ≡ text → listing_of (request_file e.request) ≡ text
listed_as e text accepted t plan same =
    planned e.request (within_of_accepted e.request accepted) t ∙ ap (plan_text e.request) plan ∙ same

pub drawn : listing_of (request_file listed_example.request) ≡ drawn_text
unfolding first_from row_verdict verdict_of rows
drawn =
    listed_as listed_example drawn_text refl (record { inputs = refl; outputs = refl; demands = refl }) plan_of-drawn
    text_of-drawn

pub wide : listing_of (request_file largest_numbers.request) ≡ wide_text
unfolding first_from row_verdict verdict_of rows
wide =
    listed_as largest_numbers wide_text refl (record { inputs = refl; outputs = refl; demands = refl }) plan_of-wide
    text_of-wide

pub refused : (file : List ℕ) (k p : ℕ) → Gives (read_verdict file) k p
    → listing_of file ≡ line (ascii "refused" ∷ decimal k ∷ decimal p ∷ [])
unfolding refused_text
refused file k p given = go (read_verdict file) given
  where
    go : (v : Verdict) → Gives v k p → text_of v (request_in file) ≡ line (ascii "refused" ∷ decimal k ∷ decimal p ∷ [])
    go Accepted none = absurd none
    go (Refused x) (number, place) = ap₂ (λ (i j : ℕ). line (ascii "refused" ∷ decimal i ∷ decimal j ∷ [])) number place

-- Lines are counted piece by piece, and a number takes none.
lines_append : (p q : List ℕ) → lines_in (p ++ q) ≡ lines_in p + lines_in q
unfolding lines_in
lines_append [] q = omega arith
lines_append (b ∷ p) q = rw (lines_append p q) (omega arith)

no_line : (x : ℕ) → lines_in (decimal x) ≡ 0
unfolding lines_in
no_line = by_digits (λ x t. lines_in t ≡ 0) (λ x h. digit x) (λ x t h none. rw (lines_append, none, zero-add) (digit (x % 10)))
  where
    digit : (d : ℕ) → lines_in ((48 + d) ∷ []) ≡ 0
    digit d = rw (ne_eqb (48 + d) 10 (λ e. omega arith))

lines_each : (n k : ℕ) (f : ℕ → List ℕ) → ((i : ℕ) → lines_in (f i) ≡ k) → lines_in (each n f) ≡ n * k
unfolding each lines_in
lines_each zero k f h = omega arith
lines_each (suc n) k f h =
    rw (lines_append, lines_each n k f h, h n) (omega (arith, suc-mul n k))

one_line : (u : Input) (v : Output) (demand numerator reason : ℕ) → lines_in (flow_line u v demand numerator reason) ≡ 1
unfolding flow_line lines_in
one_line u v demand numerator reason = simp (lines_append, no_line, zero-add)

pub lines : (r : Request) (p : Plan) → lines_in (cell_lines r p) ≡ r.m * r.n
lines r p =
    lines_each r.m (r.n * 1) _ (λ u. lines_each r.n 1 _ (λ v. one_line (input u) (output v) _ _ _)) ∙ omega arith

pub last : (r : Request) (p : Plan)
    → plan_text r p
    ≡ first_line r.m r.n p.base ++ (cell_lines r p ++ line (ascii "end" ∷ decimal (lines_in (cell_lines r p)) ∷ []))
unfolding plan_text last_line
last r p = rw (lines r p)
