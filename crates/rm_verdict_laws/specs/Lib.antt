pub mod Verdicts
pub mod Rows
pub mod Findings
pub mod Laws
