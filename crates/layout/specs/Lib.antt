-- Where everything stands in work memory, and in a plan.
pub mod Layout
pub mod Places
