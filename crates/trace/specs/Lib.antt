pub mod Indexed
pub mod Rules
pub mod RecordedRuns
pub mod Texts
pub mod Values
pub mod Turns
pub mod Replayed
