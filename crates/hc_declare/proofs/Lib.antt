pub mod NameNodes
pub mod Written
pub mod Gives
pub mod ItemNames
pub mod BlockItems
pub mod EachItem
pub mod Leaves
