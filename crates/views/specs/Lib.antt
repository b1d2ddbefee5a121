-- Which records of a problem a part of it has.
pub mod Wanted
