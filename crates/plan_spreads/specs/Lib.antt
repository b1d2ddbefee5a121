-- What is known of an objective's costs before the search.
pub mod LargestCosts
pub mod Ceilings
