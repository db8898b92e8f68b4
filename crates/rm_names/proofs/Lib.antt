pub mod FirstPlaces
pub mod KeyLemmas
pub mod KeyedLemmas
pub mod NameLemmas
mod TextLemmas
