pub mod WorkingSets
pub mod Stages
pub mod Rounds
pub mod Steps
pub mod Takers
pub mod Answers
pub mod Certificates
