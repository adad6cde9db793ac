-- What the checker's searches answer.
pub mod Found
pub mod Flows
