pub mod Steps
pub mod FirstMoves
pub mod Frames
pub mod Tables
pub mod Words
pub mod Rows
pub mod Texts
pub mod CodeNames
