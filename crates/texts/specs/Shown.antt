-- What is shown of listings, in one place: with `Listing`, the file to read. The first demand asks for what it says of room.
use Rattle.std.specs.Prelude.{ℕ, ◌+◌, ◌*◌, ◌≤◌, ◌<◌, cond, ◌↔◌, ◌≡◌, List, [], ◌∷◌, ◌++◌, eqb, length, take, drop}
use Rattle.switch.specs.Drawn.{largest_numbers, listed_example}
use Rattle.switch.specs.Given.{Gives}
use Rattle.switch.specs.Planned.{plan_of}
use Rattle.switch.specs.Within.{Within, Shaped}
use Rattle.switch.specs.declared.plan.Plan.{Plan}
use Rattle.switch.specs.declared.request.Request.{Request}
use Rattle.switch.specs.declared.verdict.Verdict.TheVariants.{Accepted}
use Rattle.formats.specs.RequestFile.{request_file, read_verdict}
use Rattle.texts.specs.Ascii.{ascii}
use Rattle.texts.specs.Decimal.{decimal, Numeral}
use Rattle.texts.specs.Listing.{line, first_line, cell_lines, plan_text, listing_of, listed, listed_in}

-- The listing of document 01's drawn example P7.
abbrev pub drawn_text : List ℕ
drawn_text =
    ascii "plan 2 2 base 2\n" ++ ascii "0 0 10 7 1\n" ++ ascii "0 1 10 7 1\n" ++ ascii "1 0 2 4 0\n" ++ ascii "1 1 1 2 0\n"
    ++ ascii "end 4\n"

-- The same of P6, which has one input and three outputs and so tells them apart in the first line and the last.
abbrev pub wide_text : List ℕ
wide_text =
    ascii "plan 1 3 base 3\n" ++ ascii "0 0 16777216 16777216 1\n" ++ ascii "0 1 16777216 16777216 1\n"
    ++ ascii "0 2 16777216 16777216 1\n" ++ ascii "end 3\n"

-- How many lines a text has.
unfoldable pub lines_in : List ℕ → ℕ
lines_in [] = 0
lines_in (b ∷ rest) = cond (eqb b 10) 1 0 + lines_in rest

pub record ListingShown : Type 0 where
  -- the files of the two examples are listed as it stands above
  pub drawn : listing_of (request_file listed_example.request) ≡ drawn_text
  pub wide : listing_of (request_file largest_numbers.request) ≡ wide_text
  -- the file of any request within the limits is listed as the request's plan,
  pub planned : (r : Request) → Within r → Shaped r → listing_of (request_file r) ≡ plan_text r (plan_of r)
  -- with a line for each used cell, and the number of these lines in the last one
  pub lines : (r : Request) (p : Plan) → lines_in (cell_lines r p) ≡ r.m * r.n
  pub last : (r : Request) (p : Plan)
      → plan_text r p
      ≡ first_line r.m r.n p.base ++ (cell_lines r p ++ line (ascii "end" ∷ decimal (lines_in (cell_lines r p)) ∷ []))
  -- any other file is listed as the refusal that reading it gives, with its number and its place
  pub refused : (file : List ℕ) (k p : ℕ) → Gives (read_verdict file) k p
      → listing_of file ≡ line (ascii "refused" ∷ decimal k ∷ decimal p ∷ [])
  -- every number is in decimal
  pub numbers : (x : ℕ) → Numeral x (decimal x)
  -- no text has more than 2,144 bytes
  pub fits : (file : List ℕ) → length (listing_of file) ≤ 2144
  -- listing is accepted exactly where there is room for the text, whatever the text says;
  pub accepted : (file buffer : List ℕ) → ((listed file buffer).verdict ≡ Accepted) ↔ (length (listing_of file) ≤ length buffer)
  -- then the text stands at the beginning of the buffer, and the length is the text's
  pub written : (file buffer : List ℕ) → length (listing_of file) ≤ length buffer
      → ((listed file buffer).length ≡ length (listing_of file))
      × (take (listed file buffer).length (listed_in file buffer) ≡ listing_of file)
  -- otherwise it is refused 16 at place 0, the length is 0, and the buffer is as it was
  pub without_room : (file buffer : List ℕ) → length buffer < length (listing_of file)
      → Gives (listed file buffer).verdict 16 0 × ((listed file buffer).length ≡ 0) × (listed_in file buffer ≡ buffer)
  -- whatever the verdict, the bytes after the text are kept
  pub rest_kept : (file buffer : List ℕ)
      → (length (listed_in file buffer) ≡ length buffer)
      × (drop (listed file buffer).length (listed_in file buffer) ≡ drop (listed file buffer).length buffer)
