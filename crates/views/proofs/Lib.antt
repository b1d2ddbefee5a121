-- The laws that the functions' proofs share, and what their callers need.
pub mod SideSteps
pub mod LinkedSteps
pub mod Narrowing
pub mod NarrowedRecords
pub mod KeptPlaces
pub mod KeptTables
