pub mod Accepted
mod AcceptedHospitals
mod AcceptedLists
mod DoctorRows
mod Files
mod HospitalRows
mod ItemCells
mod NumberLemmas
mod NumberedTexts
pub mod OnLiterals
mod RankRows
mod Small
