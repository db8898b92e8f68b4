pub mod Answers
pub mod Command
pub mod Ending
pub mod Headline
pub mod Telling
pub mod Texts
pub mod WithoutPolicy
