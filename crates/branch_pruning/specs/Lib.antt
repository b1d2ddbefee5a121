-- The tests of a partial choice.
pub mod Tests
