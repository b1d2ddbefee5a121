-- Text as bytes: its words, and decimal numbers; what reading finds at a place.
pub mod Texts
pub mod Reads
