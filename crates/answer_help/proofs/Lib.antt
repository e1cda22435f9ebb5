pub mod Deliveries
pub mod Kept
pub mod Told
