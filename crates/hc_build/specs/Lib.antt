pub mod Built
pub mod Implements
pub mod Objects
pub mod Uses
pub mod Sources
pub mod Runs
