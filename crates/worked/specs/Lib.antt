-- What programs work out in 64 bits: what the numbers of a plan say of its ports and flows, rows 10 to 15 from it, and how a plan is
-- brought to its least base.
pub mod Saturated
pub mod Port
pub mod Reason
pub mod Overwritten
pub mod Rates
pub mod Reduced
pub mod Worked
