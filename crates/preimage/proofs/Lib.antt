pub mod FrameSteps
pub mod Leads
pub mod OutcomeLemmas
pub mod SideLemmas
pub mod SizeLemmas
