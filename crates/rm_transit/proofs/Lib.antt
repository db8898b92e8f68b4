pub mod CaseRuns
pub mod Doctors
mod EventRows
pub mod Events
mod MarkContracts
pub mod Rest
pub mod OneSeat
