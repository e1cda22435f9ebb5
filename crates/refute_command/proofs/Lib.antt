pub mod RefuteAnswers
pub mod RefuteDecides
pub mod RefuteSizes
pub mod FromInitial
