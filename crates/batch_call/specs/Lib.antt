-- What the batch call promises, and what its steps rely on and ensure.
pub mod Says
pub mod Steps
