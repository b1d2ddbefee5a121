-- The laws of candidates.
pub mod Sifting
