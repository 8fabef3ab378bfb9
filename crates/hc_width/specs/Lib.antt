pub mod Whole
pub mod Operand
pub mod Judged
pub mod Unary
pub mod Binary
pub mod Parts
pub mod Groups
