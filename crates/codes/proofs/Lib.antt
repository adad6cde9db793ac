-- What holds of the calls for C.
pub mod Places
pub mod Fault
pub mod PlanLaid
pub mod Shown
