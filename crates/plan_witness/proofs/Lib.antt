pub mod Visits
pub mod Taken
pub mod LeastWays
pub mod Walks
pub mod GraphRuns
pub mod Counting
pub mod Meanings
pub mod FoundRuns
pub mod Everywhere
pub mod Tall
pub mod Lengths
pub mod Onwards
mod Ranks
