-- The theorems about the canonical form, in the order in which they rest on each other.
-- bytes at a place of a buffer
pub mod Places
-- byte strings in dictionary order, and lists in that order
pub mod ByteOrder
pub mod Filing
pub mod FiledBytes
-- cost records over rising scopes
pub mod ChoicePlaces
pub mod RisenScopes
pub mod RisenEntries
pub mod TurnedTables
-- layouts of one problem
pub mod Layouts
-- what the definitions say of small problems
pub mod FormRows
-- the promises
pub mod JoinedTables
pub mod CanonicalRules
pub mod SameForms
pub mod CanonicalBytes
pub mod CanonicalCalls
pub mod Statements
