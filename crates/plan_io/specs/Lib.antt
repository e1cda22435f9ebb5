pub mod Counts
pub mod Fetches
pub mod Held
pub mod MemShelf
pub mod MemSink
