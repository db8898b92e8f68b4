pub mod Mix
pub mod Steps
pub mod RaisedBoard
pub mod RaisedBest
pub mod TwoMarkets
pub mod Results
pub mod Roots
mod Computed
mod Examples
