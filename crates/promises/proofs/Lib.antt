-- That what was promised is kept.
pub mod Demand1
pub mod Demand2
pub mod Demand3
pub mod Drawn
pub mod Calls
