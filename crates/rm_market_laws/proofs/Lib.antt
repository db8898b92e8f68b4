pub mod Wishes
pub mod BestSets
pub mod Market
