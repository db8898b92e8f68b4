pub mod Offers
pub mod FirstOnly
