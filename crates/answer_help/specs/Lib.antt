pub mod FaultHelp
pub mod FaultKinds
pub mod Helped
pub mod Keeping
