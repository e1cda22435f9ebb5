pub mod Mapped
pub mod InOrder
pub mod NoFloats
pub mod NoFloatsInActions
