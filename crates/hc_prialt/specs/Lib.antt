pub mod Picks
pub mod Cases
