pub mod Cells
pub mod Doctors
pub mod Hospitals
pub mod Items
pub mod Ranks
pub mod Readings
pub mod Roster
