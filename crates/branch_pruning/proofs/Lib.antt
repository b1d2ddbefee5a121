-- The laws of the tests, of lists of what is reached, and of what a bound may reach.
pub mod Ties
pub mod TwoLists
pub mod Reaches
