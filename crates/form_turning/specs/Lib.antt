-- Entries of a table in even steps, and the variables along which it is read.
pub mod Steps
pub mod Strides
pub mod Axes
