pub mod Bits
pub mod TestLists
pub mod BlockLists
pub mod Laws
