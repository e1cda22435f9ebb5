pub mod Pictures
pub mod Places
pub mod Values
pub mod Texts
pub mod Runs
pub mod Labels
