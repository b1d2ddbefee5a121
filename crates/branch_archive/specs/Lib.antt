-- What changes of the archive ensure: row by row, and of the points.
pub mod Changes
pub mod Says
