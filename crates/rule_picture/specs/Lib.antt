pub mod Drawing
pub mod Rules
pub mod Texts
pub mod Values
