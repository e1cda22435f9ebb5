pub mod Lines
pub mod ToldRuns
pub mod Tried
pub mod Whys
