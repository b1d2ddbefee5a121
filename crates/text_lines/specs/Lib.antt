-- What writing a form to a place of a buffer leaves there.
pub mod Written
