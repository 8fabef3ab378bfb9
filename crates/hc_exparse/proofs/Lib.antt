pub mod Walk
pub mod Rows
pub mod More
pub mod Heads
pub mod Parsed
