pub mod Answer
pub mod Header
pub mod Packed
pub mod Rows
pub mod Source
