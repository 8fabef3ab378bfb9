pub mod Parts
pub mod Constants
pub mod Joined
pub mod Chosen
pub mod Controlled
pub mod LatchNodes
pub mod Waited
pub mod SideBySide
