pub mod Enabled
pub mod Ports
pub mod Sources
