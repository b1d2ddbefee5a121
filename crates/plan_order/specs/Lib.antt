-- What the scores of variables stay below, and which order a number says.
pub mod Fill
pub mod Orders
