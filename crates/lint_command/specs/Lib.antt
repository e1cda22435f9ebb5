pub mod Limited
pub mod Mistakes
pub mod ReadValues
pub mod TaskTold
pub mod Values
pub mod Words
