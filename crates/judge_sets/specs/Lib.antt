pub mod TableSets
pub mod Fixpoints
pub mod WorkingSets
pub mod Places
