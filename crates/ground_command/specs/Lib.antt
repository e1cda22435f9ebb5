pub mod GroundCommand
