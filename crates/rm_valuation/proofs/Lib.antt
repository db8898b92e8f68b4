pub mod Chains
pub mod Sums
pub mod Counted
pub mod Taken
pub mod Overfull
