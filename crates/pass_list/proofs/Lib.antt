-- The laws that the functions' proofs share.
pub mod Kept
pub mod Made
pub mod Passing
pub mod Since
pub mod Sourced
