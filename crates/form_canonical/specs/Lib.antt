-- The canonical form of a problem, what the call for it answers, and the theorems about it.
pub mod Order
pub mod Canonical
pub mod Statements
pub mod Says
pub mod Places
