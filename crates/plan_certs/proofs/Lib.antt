pub mod Lists
pub mod NoWayOut
pub mod Verdicts
pub mod Written
pub mod CubeForms
pub mod Spelled
pub mod InOrder
pub mod Whole
pub mod Judged
mod Examples
pub mod PrintedLemmas
