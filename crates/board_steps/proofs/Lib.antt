pub mod StepLemmas
pub mod MakeLemmas
