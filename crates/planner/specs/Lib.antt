-- What the planner's engine is handed, and what it keeps.
pub mod Sizes
pub mod Limits
pub mod Areas
pub mod Stages
pub mod Tables
pub mod Engine
pub mod Ports
