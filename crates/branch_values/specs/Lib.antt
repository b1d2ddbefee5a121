-- The bounds with each value.
pub mod Rows
