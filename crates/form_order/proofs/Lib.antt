-- The laws of parts, of bytes compared and copied, and of a first element that is moved back.
pub mod Parts
pub mod SameBytes
pub mod Comparing
pub mod Bisecting
pub mod Copying
pub mod CopiedParts
pub mod Sorting
