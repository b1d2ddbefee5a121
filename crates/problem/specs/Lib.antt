-- What the reading functions rely on and ensure.
pub mod Records
pub mod Says
