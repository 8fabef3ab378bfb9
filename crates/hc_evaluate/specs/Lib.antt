pub mod Nests
pub mod Targets
pub mod Elements
