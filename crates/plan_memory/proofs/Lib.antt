-- The laws that the functions' proofs share.
pub mod Arranging
pub mod Filling
