pub mod ListsBelow
pub mod Stability
mod Refused
