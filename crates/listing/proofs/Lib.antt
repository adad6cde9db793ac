-- How pieces of a text are put one behind the other, whose text that is, and what copying it leaves.
pub mod Pieces
pub mod Read
pub mod Copied
