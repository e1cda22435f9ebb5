pub mod MarkLemmas
pub mod KeptAll
pub mod EachApplied
pub mod Apart
pub mod ChoiceLemmas
