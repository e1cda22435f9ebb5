pub mod Answers
pub mod Cached
pub mod Calls
pub mod Growth
pub mod GrowthLaws
pub mod Known
pub mod Operations
pub mod Pairs
