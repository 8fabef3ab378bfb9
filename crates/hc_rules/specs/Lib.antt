pub mod Weight
pub mod Rules
pub mod Labels
pub mod Walk
pub mod Offered
