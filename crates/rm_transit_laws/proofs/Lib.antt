pub mod Marks
pub mod Delivered
pub mod Sent
pub mod Arrived
pub mod Travel
pub mod Markets
pub mod Moves
pub mod Outcomes
pub mod Truth
mod Examples
