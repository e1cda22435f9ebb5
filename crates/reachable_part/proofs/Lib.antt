pub mod Carrying
mod Counterparts
