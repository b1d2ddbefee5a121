-- Tuples of a WCSP text.
pub mod Entries
