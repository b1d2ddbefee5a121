-- What the public calls promise, what a caller has by these promises, and the version.
pub mod Says
pub mod Runs
pub mod Turns
pub mod Demands
pub mod Version
