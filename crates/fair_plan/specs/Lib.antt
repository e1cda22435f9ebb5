pub mod Goals
pub mod Found
pub mod Places
pub mod Boards
pub mod Rounds
