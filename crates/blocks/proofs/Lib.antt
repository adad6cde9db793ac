-- Where words stand among chunks of bytes, and what folding them gives.
pub mod Chunks
pub mod Running
