pub mod Comment
pub mod Digits
pub mod Either
pub mod Fronts
pub mod Plain
pub mod Reached
pub mod Readings
