-- What files hold, and when they are refused.
pub mod FileRows
pub mod Writing
pub mod RequestFile
pub mod PlanFile
pub mod Chosen
pub mod Fault
pub mod PlanFault
pub mod Shown
pub mod PlanShown
