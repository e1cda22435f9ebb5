pub mod Elements
pub mod Ranges
pub mod Distinct
pub mod Booleans
pub mod Numbers
pub mod Options
