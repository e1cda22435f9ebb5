pub mod Cases
pub mod Follows
pub mod Groups
pub mod Starts
