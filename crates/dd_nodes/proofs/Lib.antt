pub mod Agreement
pub mod Canonicity
pub mod Chains
pub mod CollectedCount
pub mod Collecting
pub mod Counting
pub mod Dependence
mod Examples
pub mod Extending
pub mod Extension
pub mod Making
pub mod Marking
pub mod Moving
pub mod NodeCount
pub mod NodeEq
pub mod NodeLemmas
pub mod Opening
pub mod Reaching
