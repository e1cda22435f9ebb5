pub mod Actions
pub mod Built
pub mod Capped
pub mod Collecting
pub mod Drafts
pub mod Limits
pub mod NameWords
pub mod Numbered
