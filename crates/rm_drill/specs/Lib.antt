pub mod Choices
pub mod Draws
pub mod Files
pub mod Hospitals
pub mod Lists
pub mod Nation
pub mod Open
pub mod Ranks
