-- The key of some bytes.
pub mod Keys
