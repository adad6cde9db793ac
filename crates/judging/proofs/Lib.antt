-- What follows from the rows of a plan and its faults.
pub mod Flows
pub mod Accepted
pub mod Fault
pub mod Noticed
pub mod JudgeFirst
pub mod Drawn
pub mod Shown
