-- What follows from the definitions of a block.
pub mod Words
pub mod Sealed
