pub mod Counting
pub mod Front
pub mod Taking
pub mod Targets
pub mod Rounds
pub mod Together
pub mod OneRegion
