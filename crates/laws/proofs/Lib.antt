-- What holds of numbers, tests and lists, whatever they stand for.
pub mod Search
pub mod Lists
pub mod Filled
pub mod Determined
