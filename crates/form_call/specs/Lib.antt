-- What writing the canonical form relies on.
pub mod Opened
