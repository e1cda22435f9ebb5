mod Sizes
mod EntryLemmas
mod ObjectLemmas
mod PassLemmas
mod Orders
mod Ordered
mod Answered
mod Fitting
pub mod WordNames
