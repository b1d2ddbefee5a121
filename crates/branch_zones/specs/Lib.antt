-- The zones in memory, and what the steps of a split ensure.
pub mod Zones
pub mod Steps
