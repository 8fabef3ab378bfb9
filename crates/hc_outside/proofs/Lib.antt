pub mod UnderWay
pub mod Seen
pub mod Opened
