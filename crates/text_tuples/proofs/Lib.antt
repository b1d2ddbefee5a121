-- Laws that the functions' proofs cite.
pub mod Reading
pub mod Marks
pub mod Tuples
