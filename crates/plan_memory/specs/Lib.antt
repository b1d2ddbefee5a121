-- What making a plan ensures.
pub mod Arranged
