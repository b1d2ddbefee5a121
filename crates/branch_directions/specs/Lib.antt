-- Directions: the objectives and weighted sums of them; what weights are made from.
pub mod Directions
pub mod Shares
