pub mod RunRules
pub mod GuideRules
pub mod Guides
