pub mod Checks
pub mod Codes
pub mod Lists
pub mod Numbers
pub mod Reading
pub mod Text
