pub mod Takes
pub mod Arrays
pub mod Lines
pub mod Signals
