-- Laws of directions for the crates above, and what the functions' proofs share.
pub mod SumsOf
pub mod DirectionLaws
pub mod TableRows
pub mod Widths
