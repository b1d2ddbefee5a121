-- Parts of a buffer of bytes.
pub mod Parts
