pub mod Causes
pub mod Fetching
pub mod Laws
pub mod Runs
pub mod Told
