-- The laws that the functions' proofs share.
pub mod FourCeilings
pub mod FittedCeilings
pub mod PlacesKept
pub mod ReadRecords
pub mod HalfKept
pub mod PlanKept
pub mod Forms
pub mod Turns
