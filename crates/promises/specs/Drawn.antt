-- Document 01's drawn examples, P1 to P12, as one table: each row is what the definition answers by which the call does. The
-- numbers stand in switch/Drawn and judging/Drawn, each request with the plan or the verdict that it has to have.
use Rattle.std.specs.Prelude.{◌≡◌}
use Rattle.words.specs.Check.{check, start_of}
use Rattle.switch.specs.Drawn.{Example, triangle_of_ones, held_by_output, asking_nothing, no_capacity, asking_all, asking_more, largest_numbers, listed_example, triangle_of_eights, cell_nine_lowered}
use Rattle.switch.specs.Given.{Gives}
use Rattle.switch.specs.declared.verdict.Verdict.TheVariants.{Accepted}
use Rattle.switch.specs.Answer.{planned}
use Rattle.judging.specs.Drawn.{doubled, version_two, exchanged}
use Rattle.judging.specs.PlanRows.{judged}
use Rattle.formats.specs.RequestFile.{request_file}
use Rattle.texts.specs.Listing.{listing_of}
use Rattle.texts.specs.Shown.{drawn_text}

-- The planner accepts the request and hands back the plan that is drawn.
abbrev pub Planned : Example → Type 0
Planned e = planned e.request ≡ record { verdict = Accepted; plan = e.plan }

pub record DrawnTable : Type 0 where
  -- the triangle of 1s
  pub P1 : Planned triangle_of_ones
  -- one port on a side: held by the output,
  pub P2 : Planned held_by_output
  -- asking for nothing,
  pub P3 : Planned asking_nothing
  -- from an input that can carry nothing,
  pub P4 : Planned no_capacity
  -- asking for all that there is, and for more
  pub P5 : Planned asking_all × Planned asking_more
  -- the largest numbers, from one input to three outputs
  pub P6 : Planned largest_numbers
  -- the worked listing: its plan, and its text byte for byte
  pub P7 : Planned listed_example
      × (listing_of (request_file listed_example.request) ≡ drawn_text)
  -- the triangle of 8s, in which cell 9 gets 3; and with its demand lowered to 2 it gets 2
  pub P8 : Planned triangle_of_eights × Planned cell_nine_lowered
  -- offered for the triangle: P1's plan over twice its base, which is accepted,
  pub P9 : judged doubled.request doubled.plan ≡ Accepted
  -- version two's, refused 14 at cell 9,
  pub P10 : Gives (judged version_two.request version_two.plan) 14 9
  -- and P1's with rows and columns exchanged, refused 11 at cell 1
  pub P11 : Gives (judged exchanged.request exchanged.plan) 11 1
  -- the check of a block of zeros, as block 0, 1 and 2 of a file: 0x80000000, 0x00000001 and 0x80000001
  pub P12 : (check (start_of 0) (λ i. 0) ≡ 2_147_483_648) × (check (start_of 1) (λ i. 0) ≡ 1)
      × (check (start_of 2) (λ i. 0) ≡ 2_147_483_649)
