pub mod Steps
pub mod Entries
pub mod Own
pub mod Checks
pub mod Results
mod Examples
