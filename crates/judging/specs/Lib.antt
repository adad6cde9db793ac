-- When a plan is accepted for a request, and why not.
pub mod PlanWithin
pub mod Places
pub mod PlanRows
pub mod Fault
pub mod Shown
pub mod Drawn
