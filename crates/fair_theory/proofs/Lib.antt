pub mod FairBounds
pub mod NoFairPlan
pub mod Recurring
pub mod FairRuns
pub mod GoalRows
pub mod FairTruth
pub mod NamesBelow
