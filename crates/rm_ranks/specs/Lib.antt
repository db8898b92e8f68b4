pub mod Built
pub mod Builder
