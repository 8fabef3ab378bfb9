pub mod Objects
pub mod Reads
pub mod Operands
pub mod Moves
pub mod Elements
