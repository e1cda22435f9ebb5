pub mod Hints
pub mod Sentences
pub mod Values
