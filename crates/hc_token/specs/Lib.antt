pub mod Control
pub mod Counting
pub mod Growing
pub mod Kept
pub mod Part
pub mod Circuits
pub mod Latches
pub mod Waits
