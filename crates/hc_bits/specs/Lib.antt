pub mod Held
pub mod Moved
pub mod Carry
pub mod Elements
