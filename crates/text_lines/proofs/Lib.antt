-- Laws of digits, lines, and forms that are written part after part.
pub mod Digits
pub mod Lines
pub mod Writing
