pub mod Programs
pub mod Sets
pub mod Sizes
pub mod Judgements
