pub mod Counted
pub mod Swaps
pub mod RowsBelow
pub mod Removals
pub mod Entrants
pub mod Leaves
pub mod Holding
pub mod Prospects
