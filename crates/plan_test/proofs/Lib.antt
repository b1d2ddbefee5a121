-- The laws that the tests' proofs share.
pub mod Limits
pub mod Marking
pub mod Earlier
pub mod Lowering
pub mod PartChoices
pub mod Parts
pub mod Pairs
