pub mod Lacking
pub mod Literals
pub mod Reached
pub mod Relaxed
