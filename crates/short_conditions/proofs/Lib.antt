pub mod JoinLemmas
pub mod DepthLemmas
pub mod DraftLemmas
pub mod SimpleLemmas
pub mod ReplaceLemmas
pub mod SystemLemmas
pub mod TaskLemmas
