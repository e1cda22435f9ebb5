pub mod ContextGoals
pub mod Enough
pub mod FoundGoals
pub mod FoundPlans
pub mod GoalConditions
pub mod GoalSets
pub mod PlanCommand
pub mod Plannings
