pub mod Accepted
pub mod Checked
pub mod Falling
pub mod Falls
pub mod FlatSteps
pub mod LastRun
pub mod Places
pub mod Sums
