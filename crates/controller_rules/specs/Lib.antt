pub mod AsRun
pub mod Checks
pub mod Guards
pub mod Serving
pub mod Texts
pub mod Unlisted
