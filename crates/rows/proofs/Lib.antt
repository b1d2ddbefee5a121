-- The laws that the functions' proofs share.
pub mod Arrays
pub mod Tabulated
pub mod RowNumbers
pub mod PaddedParts
pub mod RowParts
pub mod RowPlaces
pub mod Changing
pub mod Packing
pub mod RowWrites
pub mod RowsKept
pub mod RowLists
