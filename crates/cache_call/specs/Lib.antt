-- What the steps of the cached call rely on and ensure.
pub mod Steps
