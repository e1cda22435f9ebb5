pub mod Explained
pub mod Fairly
pub mod Findings
pub mod Lined
pub mod Values
pub mod Words
pub mod Documents
pub mod FindingValues
