-- The laws that the functions' proofs share.
pub mod LargestEntries
pub mod LargestSums
