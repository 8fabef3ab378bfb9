pub mod Places
pub mod Clocks
pub mod Adding
pub mod Offering
pub mod Meeting
pub mod Firsts
pub mod Broken
