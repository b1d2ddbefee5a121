-- What the tests of a plan promise.
pub mod Orders
pub mod Marks
pub mod Parts
