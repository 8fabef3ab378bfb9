pub mod EachEnabled
pub mod Writing
pub mod Serves
pub mod PinSources
pub mod Driven
