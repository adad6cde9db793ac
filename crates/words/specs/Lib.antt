-- What a block is: its words, and the check that its last word holds.
pub mod Words
pub mod Check
