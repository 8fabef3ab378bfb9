pub mod Passes
pub mod Walk
pub mod Words
pub mod Found
