pub mod Laws
pub mod Preimages
pub mod Sides
pub mod WorkingSets
