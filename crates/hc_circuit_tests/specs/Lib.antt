pub mod Sealed
pub mod Counter
pub mod Memory
pub mod Sum
