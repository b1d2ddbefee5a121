-- The laws behind the batch call.
pub mod SolvePlaces
pub mod Lent
pub mod Turns
pub mod Cases
