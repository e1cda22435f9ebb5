pub mod SameRuns
pub mod RunPairs
pub mod Agreeing
