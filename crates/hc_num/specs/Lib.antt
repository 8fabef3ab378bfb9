pub mod Number
pub mod Arithmetic
pub mod Bits
pub mod Compare
pub mod Shift
pub mod Parts
pub mod Index
