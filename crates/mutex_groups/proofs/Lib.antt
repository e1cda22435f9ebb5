pub mod CaseLemmas
pub mod Soundness
pub mod StartLemmas
