pub mod Weights
pub mod Roles
pub mod Meant
pub mod Edits
pub mod Faults
pub mod Plain
pub mod Domains
