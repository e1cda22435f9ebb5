pub mod Choices
pub mod Fluents
pub mod Numbered
