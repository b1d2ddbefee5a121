-- Laws of entries, values and lines that the proofs cite.
pub mod Entries
pub mod EntryLines
pub mod Functions
pub mod Values
pub mod Heads
pub mod FirstLines
pub mod Networks
pub mod Opening
pub mod TextAnswers
