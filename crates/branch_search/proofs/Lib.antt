-- Laws of the search.
pub mod Aims
pub mod Nodes
pub mod Meeting
pub mod Memory
pub mod ArchivedWords
pub mod Archives
pub mod Completions
pub mod Testing
pub mod Leaving
pub mod Zoning
pub mod Leaf
pub mod Opening
pub mod Trying
pub mod Values
pub mod Passes
