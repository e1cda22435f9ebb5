pub mod Agreement
pub mod Places
pub mod Index
