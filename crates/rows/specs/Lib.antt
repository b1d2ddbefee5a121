-- The listed points in work memory.
pub mod Rows
