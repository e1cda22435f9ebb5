mod Ends
mod Failures
mod Forever
mod FalseParts
mod LongestRuns
mod Missed
mod Placed
mod Pushed
mod Stems
mod Stuck
mod Told
pub mod Among
