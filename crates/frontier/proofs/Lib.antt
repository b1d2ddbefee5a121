-- Laws that the calls' proofs cite.
pub mod ListAnswers
pub mod Places
pub mod Promises
-- the demands, by the promises alone
pub mod Outcomes
pub mod Demand1
pub mod Demand2
pub mod Demand3
pub mod BoundLaws
pub mod TextBack
pub mod EqualForms
pub mod CachedRuns
pub mod BatchTurns
