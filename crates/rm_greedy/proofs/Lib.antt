pub mod Reached
pub mod SameHospital
pub mod FirstOfHeads
pub mod Firsts
pub mod Steps
pub mod Marked
