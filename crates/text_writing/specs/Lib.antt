-- The lines of a text, and what writing them relies on.
pub mod Forms
pub mod Opened
