pub mod NamesRead
pub mod Items
