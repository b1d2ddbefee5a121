-- The laws that the functions' proofs share.
pub mod Keeping
pub mod Cutting
