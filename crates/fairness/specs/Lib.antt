-- Problems of sharing over a list of limits: what fair is, how to fill, and how large a base can get.
pub mod Total
pub mod Problem
pub mod Fairness
pub mod Entitlement
pub mod Divisor
pub mod Product
pub mod Filling
pub mod Round
