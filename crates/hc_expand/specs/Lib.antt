pub mod Runs
pub mod Forms
pub mod Spelled
pub mod Answered
pub mod Branches
