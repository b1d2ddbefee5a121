-- What finding the list ensures.
pub mod Says
