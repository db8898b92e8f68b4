pub mod Document
pub mod Policy
pub mod Seats
