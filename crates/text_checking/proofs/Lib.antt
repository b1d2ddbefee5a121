-- Laws that the functions' proofs cite.
-- findings in the source's kinds, fields
pub mod Codes
pub mod Fields
-- domain sizes in a word of memory each
pub mod Entries
-- what is checked step by step, lists that are filled, runs of items
pub mod Checks
pub mod Filling
pub mod Values
pub mod Runs
pub mod Scopes
pub mod Tuples
pub mod Tables
-- counts above the cap; functions
pub mod Caps
pub mod Fronts
pub mod Overs
pub mod Functions
pub mod FunctionRuns
pub mod SizeRuns
pub mod Heads
pub mod Bodies
