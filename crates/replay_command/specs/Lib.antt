pub mod RunFetches
pub mod ReplayCommand
