pub mod Answers
pub mod PictureFetched
