-- The theorems about the store and about runs of calls.
-- the forms that were stored last, round the slots
pub mod Ring
-- a form and its answer in a slot
pub mod Slots
pub mod Reading
pub mod Finding
pub mod FormAnswers
pub mod Storing
pub mod Keeping
pub mod Cleared
-- calls
pub mod Outcomes
pub mod Runs
-- the promises
pub mod Statements
-- what the definitions say of small runs
pub mod RunRows
