-- What the functions read of a text in which nothing is refused, and what they write.
pub mod Heads
pub mod Functions
