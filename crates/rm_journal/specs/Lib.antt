pub mod Doctors
pub mod Owned
pub mod Reading
