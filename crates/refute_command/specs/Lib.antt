pub mod RefuteFetches
pub mod FoundVerdicts
pub mod RefuteCommand
