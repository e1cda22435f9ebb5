pub mod Told
pub mod Values
