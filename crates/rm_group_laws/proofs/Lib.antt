pub mod Fronts
pub mod Absorbing
pub mod Cuts
pub mod Alone
pub mod GroupGains
pub mod GroupTruth
pub mod Parts
pub mod Apart
pub mod MarketGroups
pub mod MarketParts
mod Examples
pub mod OneDoctor
mod Divided
pub mod WrongAnswers
