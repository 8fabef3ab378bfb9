pub mod Division
pub mod Product
pub mod Value
