-- What follows from the definitions of files.
pub mod Content
pub mod Sound
pub mod RequestFile
pub mod PlanContent
pub mod PlanSound
pub mod Checking
pub mod PlanWritten
pub mod PlanFault
pub mod PlanNoticed
pub mod Saving
pub mod Fault
pub mod Noticed
pub mod Shown
pub mod PlanShown
