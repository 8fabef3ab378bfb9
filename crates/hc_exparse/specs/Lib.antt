pub mod Last
pub mod Ops
pub mod Parts
pub mod Heads
pub mod Parsed
