pub mod Ranks
pub mod Sets
pub mod Links
pub mod Order
pub mod Found
