-- Laws that the functions' proofs cite.
-- what is written, part after part, and a part of it over what stood there
pub mod Forms
pub mod Overwriting
-- what is read, number after number
pub mod Numbers
pub mod Scopes
pub mod Heads
pub mod Counts
pub mod Functions
-- tables
pub mod Tuples
pub mod Tables
pub mod Listings
-- the whole
pub mod Records
pub mod TextAnswers
