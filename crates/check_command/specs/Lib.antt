pub mod CheckCommand
pub mod Judged
