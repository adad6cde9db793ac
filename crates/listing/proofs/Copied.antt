-- What listing answers and leaves, without room for the text and with room.
use Rattle.std.proofs.Common.{◌≡◌, ℕ, ◌≤◌, ◌<◌, List, ◌++◌, length, drop}
use Rattle.switch.specs.Rows.{refusal}
use Rattle.switch.specs.declared.verdict.Cause.TheVariants.{Room}
use Rattle.switch.specs.declared.verdict.Verdict.TheVariants.{Accepted}
use Rattle.texts.specs.Listing.{listing_of, listed, listed_in}
use Rattle.texts.proofs.Room.{listed_without_room, listed_with_room}

module _ (file buffer : List ℕ) where
  module _ (h : length buffer < length (listing_of file)) where
    pub answer_without : listed file buffer ≡ record { verdict = refusal Room 0; length = 0 }
    answer_without = (listed_without_room file buffer h).0

    pub left_without : listed_in file buffer ≡ buffer
    left_without = (listed_without_room file buffer h).1

  module _ (h : length (listing_of file) ≤ length buffer) where
    pub answer_with : listed file buffer ≡ record { verdict = Accepted; length = length (listing_of file) }
    answer_with = (listed_with_room file buffer h).0

    pub left_with : listed_in file buffer ≡ listing_of file ++ drop (length (listing_of file)) buffer
    left_with = (listed_with_room file buffer h).1

pub ruleset copied = (answer_without, left_without, answer_with, left_with)
