-- The laws that the functions' proofs share.
pub mod Clamping
pub mod ZoneRows
pub mod RowWritten
pub mod HeldZones
pub mod PartNumbers
pub mod PartSteps
pub mod LoweredCeilings
pub mod NotReached
