-- The states of the second form of the search, and what its steps ensure.
pub mod States
pub mod Passes
