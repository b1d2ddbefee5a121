-- The listed points as they leave work memory.
pub mod Records
