pub mod Contexts
pub mod Moves
pub mod StepLemmas
pub mod WordsRead
pub mod RowsRead
pub mod RowsMean
pub mod RowsFound
