pub mod PlanSteps
pub mod SearchSteps
pub mod SetLayers
pub mod SmallSets
pub mod CertSteps
pub mod PlaceFits
