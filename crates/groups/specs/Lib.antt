-- Work memory while a list is searched, and the groups of records in it.
pub mod Groups
pub mod Sources
