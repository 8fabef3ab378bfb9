mod Programs
mod Ran
mod Rows
mod RowsTwice
pub mod Twice
mod Sets
mod Marks
mod Every
mod Waits
mod Alike
mod Fronts
mod FromNeeds
mod Goes
mod Kept
mod Main
mod Loops
mod Nodes
mod Unique
mod Order
mod There
mod SameControl
mod Identify
pub mod Law
mod Numbers
mod Once
mod EdgeSame
mod Wired
mod AccessOnce
mod OffersApart
mod Writes
pub mod Nets
mod Satisfied
pub mod TextOrder
pub mod Possible
pub mod OneRun
pub mod Least
pub mod Longer
