pub mod Causes
pub mod Goals
pub mod NeverRuns
pub mod Parts
pub mod Blocked
pub mod Makers
pub mod Texts
pub mod Values
