-- What follows from how the checker works its rows out.
pub mod Searches
pub mod Unused
pub mod UnusedCells
pub mod Weighed
pub mod Sides
pub mod Judged
