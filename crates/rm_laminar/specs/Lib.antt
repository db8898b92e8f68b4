pub mod Chains
pub mod Tree
pub mod Walk
