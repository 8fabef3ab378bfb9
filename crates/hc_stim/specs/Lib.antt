pub mod Bench
pub mod Text
pub mod Reading
pub mod Lines
pub mod StimErr
