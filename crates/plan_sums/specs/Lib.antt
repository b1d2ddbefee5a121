-- Which kind of plan a number says.
pub mod Kinds
