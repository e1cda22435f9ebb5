pub mod GroundDecides
pub mod Listings
