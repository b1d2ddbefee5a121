-- A store of solved problems, what the cached call answers and leaves in it, and runs of calls.
pub mod Stores
pub mod Outcomes
pub mod Runs
pub mod Statements
pub mod Says
