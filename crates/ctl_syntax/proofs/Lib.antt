pub mod Carried
pub mod Alike
pub mod Conjunctions
pub mod ConditionTrees
mod Examples
pub mod GoalConditions
mod GoalExamples
pub mod GoalForms
pub mod GoalMapped
pub mod GoalTruth
pub mod Meeting
pub mod Parts
pub mod Shapes
