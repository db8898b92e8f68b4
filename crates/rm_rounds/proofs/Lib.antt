pub mod Doctors
pub mod Turns
pub mod Closing
pub mod OnePost
