pub mod Board
pub mod Rules
