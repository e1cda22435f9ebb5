pub mod Certs
pub mod LayerSets
pub mod Searches
pub mod SetRules
pub mod Steps
pub mod Takers
pub mod WorkingSets
