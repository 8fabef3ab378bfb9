pub mod Fitting
pub mod Readable
pub mod Seen
