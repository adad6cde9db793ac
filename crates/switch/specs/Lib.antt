-- What document 01 says of a switch, as definitions: ports and cells, requests within the limits, fairness, reasons, the plan of a
-- request and what planning answers, and refusals with their numbers, places, rows and faults.
pub mod Cells
pub mod Within
pub mod Rates
pub mod Fairness
pub mod Reason
pub mod Planned
pub mod Shown
pub mod Entitlement
pub mod Values
pub mod Halves
pub mod Numbering
pub mod Rows
pub mod Heard
pub mod Told
pub mod Given
pub mod RequestRows
pub mod Fault
pub mod Answer
pub mod Tables
pub mod Drawn
