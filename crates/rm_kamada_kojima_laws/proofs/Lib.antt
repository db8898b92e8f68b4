pub mod Pairs
pub mod Turns
pub mod Excused
pub mod Results
pub mod SharedSeat
pub mod Examples
pub mod Refused
pub mod NoBest
