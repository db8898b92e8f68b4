pub mod ContractNames
pub mod Applying
mod Counted
pub mod Lines
pub mod ListedCounts
mod Rows
mod Sums
pub mod TextRows
