pub mod DrillCommand
