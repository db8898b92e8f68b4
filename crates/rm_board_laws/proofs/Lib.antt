pub mod Contracts
pub mod Searches
pub mod TieOrders
pub mod ListedOrder
pub mod HospitalBoards
pub mod Groups
