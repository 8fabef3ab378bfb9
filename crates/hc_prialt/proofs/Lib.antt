pub mod Choosing
pub mod Picked
