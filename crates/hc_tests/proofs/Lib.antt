pub mod Inputs
pub mod Sample
