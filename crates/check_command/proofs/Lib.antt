pub mod CheckAnswers
pub mod CheckDecides
pub mod YesMeets
pub mod ReachedStates
