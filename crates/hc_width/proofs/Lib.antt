pub mod Powers
pub mod Typing
pub mod Heights
pub mod Steps
pub mod Kept
pub mod KeptBinary
pub mod Rows
