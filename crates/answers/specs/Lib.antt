-- What the calls that list the frontier answer, by what was read and what was found.
pub mod Early
pub mod Says
pub mod Cuts
