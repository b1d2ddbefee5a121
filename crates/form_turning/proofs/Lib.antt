-- The laws of turned tables.
pub mod OrderedScopes
pub mod Strides
pub mod Steps
pub mod Walks
pub mod Stepping
pub mod Entries
pub mod TurnedTables
pub mod Axes
pub mod ThreeAxes
