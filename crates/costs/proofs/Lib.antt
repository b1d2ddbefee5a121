-- The laws that the functions' proofs share.
pub mod ScopeVariables
pub mod TableEntries
pub mod EntryLimits
pub mod Rooms
pub mod PrefixSteps
pub mod LeastSteps
pub mod LeastRuns
pub mod RunSteps
pub mod RecordSteps
pub mod SumSteps
