pub mod Widths
pub mod Signs
pub mod IndexWidths
