-- Which rows candidates may leave out.
pub mod Sifted
