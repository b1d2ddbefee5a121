-- What finding the list relies on.
pub mod Says
