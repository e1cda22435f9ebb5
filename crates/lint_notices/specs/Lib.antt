pub mod Notices
pub mod TaskNotices
pub mod Texts
pub mod Values
