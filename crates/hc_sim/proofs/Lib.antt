pub mod Typing
pub mod Words
pub mod Places
pub mod Forms
