pub mod Alike
pub mod Sets
pub mod Bounds
pub mod Offers
pub mod Turns
mod Examples
