-- What keeping a half's list ensures.
pub mod Says
