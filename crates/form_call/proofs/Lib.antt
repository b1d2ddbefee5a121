-- The laws behind the canonical call.
pub mod TurnedRecords
pub mod FormBytes
pub mod Opening
pub mod FormAnswers
