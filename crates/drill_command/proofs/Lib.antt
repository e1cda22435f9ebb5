pub mod DrillAnswers
pub mod DrillDecides
pub mod DrillSizes
