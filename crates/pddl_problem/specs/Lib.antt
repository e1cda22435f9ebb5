pub mod Sections
pub mod Init
pub mod Problems
pub mod Values
pub mod Listed
pub mod Rising
pub mod WordNames
