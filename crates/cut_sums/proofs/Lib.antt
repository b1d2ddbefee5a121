-- The laws that the functions' proofs share.
pub mod Adding
pub mod Ahead
pub mod Taking
pub mod Meeting
pub mod Sums
pub mod Merging
