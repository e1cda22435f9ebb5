pub mod BoardSizes
pub mod BoardSlots
pub mod Endings
mod InitialStates
pub mod Literals
