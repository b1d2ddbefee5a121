-- The theorems about batches.
-- frames in a row
pub mod FrameSteps
pub mod FramesRead
-- there and back
pub mod Framing
-- what is refused before any solving
pub mod Judging
-- single calls in turn, and when they are made
pub mod InTurn
pub mod Accepted
-- what they leave
pub mod AreaSteps
pub mod Areas
pub mod Memory
pub mod Room
-- the promises
pub mod Statements
-- what the definitions say of small batches
pub mod BatchRows
