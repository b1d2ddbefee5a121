-- What the functions over accepted records rely on and ensure.
pub mod Entries
pub mod Runs
