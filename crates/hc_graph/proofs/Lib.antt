pub mod Marks
pub mod Steps
pub mod Cycles
pub mod Ranks
