-- Definitions that every crate may use.
pub mod Lists
