-- Listing into a buffer: with room for the text and without.
use Prim.Native.Nat.{ℕ, ◌≤◌, ◌<◌}
use mathlib.Core.Logic.{◌↔◌, ◌⊎◌, inl, inr}
use mathlib.Core.Path.{◌≡◌, refl, sym}
use mathlib.Core.List.{List, ◌++◌}
use native.Mathlib.Omega.{arith}
use lib.ListN.{length, take, drop}
use lib.Seq.{take_at, drop_at, length_front, length-take-le}
use borrow.Author.Tests.{lt-ltb, le-ltb, ltb-false}
use Rattle.laws.proofs.Search.{le_or_lt}
use Rattle.switch.specs.Given.{Gives}
use Rattle.switch.specs.Rows.{refusal}
use Rattle.switch.specs.declared.verdict.Cause.TheVariants.{Room}
use Rattle.switch.specs.declared.verdict.Verdict.TheVariants.{Accepted}
use Rattle.switch.proofs.Rows.{row_accepted_exactly}
use Rattle.switch.proofs.Search.{passed_none, passed_more, row_refuses, row_accepts}
use Rattle.formats.specs.FileRows.{room_row}
use Rattle.texts.specs.Listing.{listing_of, room_verdict, listed, listed_in}

pub no_room : (text buffer : List ℕ) → length buffer < length text → room_verdict text buffer ≡ refusal Room 0
no_room text buffer h = row_refuses (passed_none _) (omega arith) (lt-ltb _ _ h)

pub room : (text buffer : List ℕ) → length text ≤ length buffer → room_verdict text buffer ≡ Accepted
room text buffer h = row_accepts (passed_more (passed_none _) (omega arith) (le-ltb _ _ h)) (omega arith)

module _ (file buffer : List ℕ) where
  -- It is accepted exactly where there is room.
  pub accepted_exactly : ((listed file buffer).verdict ≡ Accepted) ↔ (length (listing_of file) ≤ length buffer)
  accepted_exactly = (
    λ e. ltb-false (length buffer) (length (listing_of file))
        ((row_accepted_exactly (room_row (length (listing_of file)) buffer)).0 e 0 (omega arith)),
    room (listing_of file) buffer,
  )

  module _ (h : length (listing_of file) ≤ length buffer) where
    pub listed_with_room : (listed file buffer ≡ record { verdict = Accepted; length = length (listing_of file) })
        × (listed_in file buffer ≡ listing_of file ++ drop (length (listing_of file)) buffer)
    listed_with_room = let e = room (listing_of file) buffer h in (rw e, rw e)

    pub written : ((listed file buffer).length ≡ length (listing_of file))
        × (take (listed file buffer).length (listed_in file buffer) ≡ listing_of file)
    written =
        let e = room (listing_of file) buffer h in
        let text = listing_of file in
        (rw e, rw e (take_at text (drop (length text) buffer) (length text) refl))

  module _ (h : length buffer < length (listing_of file)) where
    pub listed_without_room : (listed file buffer ≡ record { verdict = refusal Room 0; length = 0 }) × (listed_in file buffer ≡ buffer)
    listed_without_room = let e = no_room (listing_of file) buffer h in (rw e, rw e)

    pub without_room : Gives (listed file buffer).verdict 16 0 × ((listed file buffer).length ≡ 0) × (listed_in file buffer ≡ buffer)
    without_room = let e = no_room (listing_of file) buffer h in (rw e (refl, refl), rw e, rw e)

  pub rest_kept : (length (listed_in file buffer) ≡ length buffer)
      × (drop (listed file buffer).length (listed_in file buffer) ≡ drop (listed file buffer).length buffer)
  rest_kept = go (le_or_lt (length (listing_of file)) (length buffer))
    where
      go : (length (listing_of file) ≤ length buffer) ⊎ (length buffer < length (listing_of file))
          → (length (listed_in file buffer) ≡ length buffer)
          × (drop (listed file buffer).length (listed_in file buffer) ≡ drop (listed file buffer).length buffer)
      go (inr h) = let e = no_room (listing_of file) buffer h in (rw e, rw e)
      go (inl h) =
          let e = room (listing_of file) buffer h in
          let text = listing_of file in (
            rw e (length_front buffer text (length text) (sym (length-take-le (length text) buffer h))),
            rw e (drop_at text (drop (length text) buffer) (length text) refl),
          )
