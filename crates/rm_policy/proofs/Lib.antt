mod GroupRows
pub mod GroupSets
mod HospitalRows
pub mod OnLiterals
pub mod DocumentLemmas
mod ElementLemmas
mod EntryLemmas
mod SetLemmas
mod ValueLemmas
mod Policies
