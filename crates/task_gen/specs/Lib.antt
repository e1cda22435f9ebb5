pub mod Texts
pub mod Corridors
pub mod Roads
