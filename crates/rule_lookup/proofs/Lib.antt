pub mod Finding
pub mod InTask
pub mod ByContext
