pub mod Pictures
pub mod Values
pub mod Words
pub mod Fetching
