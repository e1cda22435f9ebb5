pub mod Counting
pub mod Outcomes
pub mod Paths
pub mod Places
pub mod Telling
pub mod RunLaws
pub mod TextLemmas
pub mod TurnLemmas
pub mod RecordOrder
pub mod RecordFaults
mod TraceExamples
