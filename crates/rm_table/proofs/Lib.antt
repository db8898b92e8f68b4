pub mod AtLemmas
pub mod CellLemmas
pub mod CutLemmas
pub mod HeaderLemmas
pub mod OnLiterals
pub mod PackLemmas
pub mod RecordLemmas
mod Small
pub mod SourceLemmas
pub mod TextLemmas
pub mod TrimLemmas
