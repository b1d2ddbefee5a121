-- Laws that the functions' proofs cite.
-- lists of bytes
pub mod Words
pub mod Values
-- a text from a place on
pub mod Parts
pub mod Places
pub mod Signs
pub mod FirstWord
pub mod Readings
pub mod Widths
pub mod Prefixes
