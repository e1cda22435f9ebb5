pub mod DeadEnds
pub mod Planners
pub mod Started
pub mod Strays
pub mod Texts
pub mod ToldFrom
pub mod ToldRuns
pub mod Values
