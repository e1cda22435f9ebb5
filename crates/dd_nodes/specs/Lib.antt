pub mod Arena
pub mod Collecting
pub mod Laws
pub mod NodeList
pub mod Reached
pub mod Subfunctions
pub mod Table
