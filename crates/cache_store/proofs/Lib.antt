-- The laws of the store: slots in it, bytes compared, costs read and written, and what a save leaves.
pub mod Slots
pub mod Comparing
pub mod Costs
pub mod Saving
