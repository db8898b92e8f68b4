pub mod HospitalBoards
pub mod Groups
