-- The laws that the functions' proofs share.
pub mod Fronts
pub mod Dominance
pub mod Comparisons
pub mod Walking
pub mod Fours
pub mod ListOrder
