-- The laws behind the cached call.
pub mod Judged
pub mod Rooms
pub mod Held
pub mod Anew
pub mod Cases
pub mod Form
