pub mod Joining
pub mod Drafts
pub mod Meanings
