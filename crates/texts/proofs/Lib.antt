-- What follows from the definitions of listings.
pub mod Decimal
pub mod Pieces
pub mod Fits
pub mod Room
pub mod Texts
pub mod Shown
