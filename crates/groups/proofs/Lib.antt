-- The laws that the functions' proofs share.
pub mod SumsOver
pub mod Overwritten
pub mod Copied
pub mod Keeping
pub mod Adding
pub mod PlacedRecords
pub mod SumLimits
pub mod GroupLengths
pub mod Grouping
pub mod Tasks
