-- Buckets and messages: what they are worth, and what the search relies on.
pub mod Messages
pub mod Bounds
pub mod Sound
pub mod Content
pub mod Adding
