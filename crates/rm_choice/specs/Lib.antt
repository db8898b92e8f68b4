pub mod Size
pub mod Holding
