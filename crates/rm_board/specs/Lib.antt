pub mod Numbers
pub mod ByDoctor
pub mod ListedElements
pub mod Rules
pub mod TieKeys
pub mod Boards
