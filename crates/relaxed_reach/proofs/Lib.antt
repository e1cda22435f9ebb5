pub mod Lacks
pub mod Monotone
pub mod Soundness
pub mod Widened
pub mod TaskGoals
