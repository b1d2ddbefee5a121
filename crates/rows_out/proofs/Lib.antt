-- The laws that the functions' proofs share.
pub mod OverZeros
pub mod RowsOut
pub mod FlatRows
pub mod RecordsOut
