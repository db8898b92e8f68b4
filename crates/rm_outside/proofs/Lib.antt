pub mod GainLemmas
pub mod KeptLemmas
pub mod ReadLemmas
