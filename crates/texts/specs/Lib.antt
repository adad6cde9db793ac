-- The text of a plan.
pub mod Ascii
pub mod Decimal
pub mod Listing
pub mod Appended
pub mod Shown
