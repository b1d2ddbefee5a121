-- The laws of buckets and messages: sums, rearranged lists, what is read, and bounds; and the steps of the functions.
pub mod Sums
pub mod Rearranging
pub mod Ranges
pub mod Reading
pub mod Ends
pub mod Bounds
pub mod RowSteps
pub mod Runs
pub mod EntryRuns
pub mod MessageSteps
pub mod RecordSteps
pub mod DirectedRows
pub mod ContentRows
