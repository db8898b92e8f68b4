pub mod CountForm
pub mod Placed
pub mod Placement
pub mod Blocking
