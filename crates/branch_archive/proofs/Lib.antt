-- The laws that the functions' proofs share.
pub mod RowReads
pub mod EarlierChoice
pub mod ApartRows
pub mod DropSteps
pub mod MatchedPoint
pub mod NewPoint
pub mod Exchanging
pub mod SortSteps
pub mod SortedRows
pub mod WeightedSums
