pub mod Counts
pub mod Journal
pub mod Open
pub mod Report
pub mod Texts
