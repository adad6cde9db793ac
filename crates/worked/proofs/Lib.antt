-- That what is worked out in 64 bits is what document 01 says.
pub mod Saturated
pub mod Ports
pub mod Divisors
pub mod Rows
pub mod Bottlenecks
pub mod Exact
