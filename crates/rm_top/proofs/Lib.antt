pub mod Answering
mod BothTexts
pub mod Chosen
mod Completeness
mod Ended
mod ErrorTexts
mod Offered
mod Judged
pub mod OwnRows
pub mod Pieces
pub mod Placed
pub mod PlacesWithin
pub mod Reporting
mod WrongAnswers
mod WrongEndings
pub mod WithoutPolicy
