pub mod Front
pub mod Lexes
pub mod Mark
pub mod Number
pub mod Place
pub mod TokenList
