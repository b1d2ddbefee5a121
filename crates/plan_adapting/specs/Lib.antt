-- What a sum is adapted with, and what is left of the plans.
pub mod Adapting
