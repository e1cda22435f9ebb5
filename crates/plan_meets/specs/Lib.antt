pub mod Meets
pub mod TemporalGoals
