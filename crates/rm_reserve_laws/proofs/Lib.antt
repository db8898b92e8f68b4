pub mod Take
pub mod Firsts
pub mod PickAt
pub mod Pick
pub mod Worths
pub mod Best
pub mod Nodes
pub mod OwnBoard
pub mod Units
pub mod Results
mod Computed
mod Examples
