-- Batches of problems: their frames and areas, what the batch call answers, and what is promised of it.
pub mod Batches
pub mod Outcomes
pub mod Statements
pub mod Says
