mod BoardLemmas
mod ChoiceRows
mod SuitsLemmas
mod FolderChecks
mod Markets
pub mod NumberedRows
pub mod OfferRows
mod OrderLemmas
mod Regions
mod RegionsEntries
mod RegionsNodes
mod RegionsSums
mod RegionsTold
mod RaisedLemmas
mod ReplacedLists
pub mod Solved
pub mod Titles
mod Told
mod TurnLemmas
mod TurnRuns
