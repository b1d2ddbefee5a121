-- Vectors as the code holds them, and the laws of the dominance test.
pub mod Fronts
pub mod Dominance
pub mod Comparisons
