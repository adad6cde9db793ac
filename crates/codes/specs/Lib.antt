-- What the calls for C answer.
pub mod Code
pub mod Fault
pub mod Shown
