pub mod Additions
pub mod Heads
