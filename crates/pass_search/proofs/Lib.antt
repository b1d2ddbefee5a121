-- The laws that the functions' proofs share.
pub mod FourTotals
pub mod Matching
pub mod Touched
pub mod PrefixSteps
pub mod Partials
pub mod Opening
pub mod Steps
