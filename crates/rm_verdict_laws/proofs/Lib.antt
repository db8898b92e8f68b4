pub mod First
mod Changes
pub mod Over
pub mod Swaps
pub mod Verdict
mod Sorted
mod Full
pub mod BestSwap
pub mod Certificate
pub mod OneCertificate
mod Blocking
pub mod Finding
mod Lists
pub mod Plain
