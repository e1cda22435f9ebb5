mod Examples
pub mod Files
pub mod Written
