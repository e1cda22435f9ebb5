pub mod FairGoals
pub mod FairSets
pub mod FairPlans
pub mod FairRuns
