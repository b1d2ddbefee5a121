-- Laws that the functions' proofs cite.
-- lists and arrays
pub mod Filled
-- one record
pub mod Chains
pub mod HeadFields
pub mod ScopeRule
pub mod Sizes
pub mod SizeSteps
pub mod TableFields
pub mod WholeRecord
pub mod Scopes
-- records in a row
pub mod DomainSteps
pub mod TableSteps
pub mod RecordPlaces
-- the whole
pub mod Parts
pub mod Accepted
pub mod AcceptedTables
pub mod Readings
