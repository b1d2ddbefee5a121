-- The laws that the functions' proofs share.
pub mod SideLists
pub mod GainRows
pub mod FindSteps
pub mod SuffixSearch
