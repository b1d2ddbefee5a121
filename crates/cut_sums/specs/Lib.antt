-- What the passes over sums rely on and ensure.
pub mod Sums
