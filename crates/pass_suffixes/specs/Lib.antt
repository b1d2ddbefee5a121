-- What finding the gains relies on and ensures.
pub mod Gained
