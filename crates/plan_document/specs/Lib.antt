pub mod Actions
pub mod Data
pub mod Documents
pub mod Faithful
pub mod Names
