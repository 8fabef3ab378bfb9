mod Decimals
mod Fields
mod LineLaws
mod Kept
